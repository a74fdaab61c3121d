-- What an entry states, as the code holds it.
use Rattle.std.specs.Prelude.{map}
use Rattle.zone_rdata.specs.Item.{raw}
use Rattle.zone_text.specs.Statements.{Statement, no_items, sets_origin, sets_ttl, includes, unknown, owned, unowned}
use Rattle.zone_text.specs.declared.statements as code
use Rattle.zone_text.specs.declared.statements.Directive.TheVariants as directives
use Rattle.zone_text.specs.declared.statements.Statement.TheVariants as entries

abbrev pub directive_in : code.Directive.Directive → Statement
directive_in (directives.Origin items) = sets_origin (map raw items.now)
directive_in (directives.Ttl items) = sets_ttl (map raw items.now)
directive_in directives.Include = includes
directive_in directives.Unknown = unknown

abbrev pub statement_in : code.Statement.Statement → Statement
statement_in entries.Blank = no_items
statement_in (entries.Directive directive) = directive_in directive
statement_in (entries.Owned owner items) = owned (raw owner) (map raw items.now)
statement_in (entries.Unowned items) = unowned (map raw items.now)
