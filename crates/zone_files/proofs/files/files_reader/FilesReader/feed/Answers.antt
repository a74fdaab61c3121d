use Rattle.std.proofs.Common.{◌≡◌, [], List, ℕ, ap, sym, subst, refl, ◌∙◌}
use Rattle.zone_files.specs.IncludeStack.{FeedsInnermost}
use Rattle.zone_files.proofs.FilesReading.{kept_is, stands_fed}
use Rattle.zone_files.proofs.files.files_reader.FilesReader.feed.Goals as goal

pub returns-clause-reads : goal.returns-clause-reads
returns-clause-reads g c =
    let piece = c.args.self.now.«open».innermost.piece in
    let feeds = subst (λ (before : List ℕ). FeedsInnermost c.args.self.now.stack piece c.in-Ok.left.now c.feed.new.self before c.feed.new.out.items) c.requires.none
    (subst (λ (octets : List ℕ). FeedsInnermost c.args.self.now.stack octets c.in-Ok.left.now c.feed.new.self c.args.self.now.text.items c.feed.new.out.items) c.left-piece.ensures c.in-Ok.ensures.feeds) in
    λ main first opened text was.
    stands_fed g.R.OctetReader.state main first opened text c.args.self.now _ c.in-Ok.left.now feeds refl
    (c.keep.ensures ∙ kept_is piece feeds.part c.in-Ok.left.now _ feeds.whole refl) refl refl refl refl was
