mod Findings
mod Answering
mod Statuses
mod OneAnswer
