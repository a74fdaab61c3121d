-- The headline for main files with the files that they include: that of their expanded texts.
use Rattle.std.proofs.Common.{◌≡◌, ◌↔◌, ◌<◌, ◌≤◌, ℕ, List, [], Option, length, subst, sym, ap, arith, ◌∙◌}
use Rattle.zone_name.specs.Common.{AtMostOneIs, Labels, NothingIs}
use Rattle.zone_rdata.specs.declared.fault.Fault.{Fault}
use Rattle.zone_rdata.specs.declared.fault.Place.{Place}
use Rattle.zone_set.specs.Zone.{Zone}
use Rattle.zone_print.specs.Canonical.{canon, text_limit}
use Rattle.zone_words.specs.Rewriting.{Refused}
use Rattle.zone_files.specs.Expansion.{Ending, Files, IsExpandedWithout}
use Rattle.zone_files.specs.FileTree.{AreOneZoneOfTrees, FileTree, HasExpandedText, IsTree, TreeDenotes}
use Rattle.zone_files.specs.Loading.Reading.{IsReportedSource}
use Rattle.zone_files.specs.Loading.Report.{IsReported}
use Rattle.zone_files.specs.Presentation.{AreOneZone, IsRefusedSource, IsSource, PresentationDenotes, Source, SourceDenotes, master_file}

abbrev pub OneText : Type 0
OneText = (lines : List ℕ) (directory : Option (List ℕ)) (name : List ℕ) (origin : Labels) (octets : List ℕ) (files : Files) (a b : List ℕ) (ending last : Ending)
    → IsExpandedWithout lines directory name origin octets files a ending → IsExpandedWithout lines directory name origin octets files b last → (a ≡ b) × (ending ≡ last)

module _ (once : OneText) where
  denotes_text : (t : FileTree) (text : List ℕ) (z : Zone) → HasExpandedText t text → TreeDenotes t z → PresentationDenotes t.origin text z
  denotes_text t text z (ending, expanded) d =
      let same = once [] t.directory t.name t.origin t.octets t.files d.denotes.text text d.denotes.ending ending d.denotes.expanded expanded in
      subst (λ x. PresentationDenotes t.origin x z) same.0 d.denotes.denotes

  source_is : (t : FileTree) (z : Zone) → IsTree t → (d : TreeDenotes t z) → IsSource (master_file t.origin d.denotes.text)
  source_is t z is d = (is.name, is.octets d.denotes.text (d.denotes.ending, d.denotes.expanded))

  -- another zone of the same text
  as_tree : (t : FileTree) (z other : Zone) (d : TreeDenotes t z) → PresentationDenotes t.origin d.denotes.text other → TreeDenotes t other
  as_tree t z other d p = record { within = d.within; denotes = record { text = d.denotes.text; ending = d.denotes.ending; expanded = d.denotes.expanded; denotes = p } }

  pub same_files : ((a b : Source) (z w : Zone) → IsSource a → IsSource b → SourceDenotes a z → SourceDenotes b w → (canon z ≡ canon w) ↔ AreOneZone a b)
      → (a b : FileTree) (z w : Zone) → IsTree a → IsTree b → TreeDenotes a z → TreeDenotes b w → (canon z ≡ canon w) ↔ AreOneZoneOfTrees a b
  same_files same a b z w is too of_a of_b =
      let both = same (master_file a.origin of_a.denotes.text) (master_file b.origin of_b.denotes.text) z w (source_is a z is of_a) (source_is b w too of_b) of_a.denotes.denotes of_b.denotes.denotes in (
        λ equal. let (u, in_a, in_b) = both.0 equal in (u, as_tree a z u of_a in_a, as_tree b w u of_b in_b),
        λ (u, in_a, in_b). both.1 (u, denotes_text a of_a.denotes.text u (of_a.denotes.ending, of_a.denotes.expanded) in_a, denotes_text b of_b.denotes.text u (of_b.denotes.ending, of_b.denotes.expanded) in_b),
      )

  pub one_of_files : ((source : Source) → IsSource source → AtMostOneIs (SourceDenotes source)) → (t : FileTree) → IsTree t → AtMostOneIs (TreeDenotes t)
  one_of_files one t is z w a b =
      one (master_file t.origin a.denotes.text) (source_is t z is a) z w a.denotes.denotes (denotes_text t a.denotes.text w (a.denotes.ending, a.denotes.expanded) b)

  pub none_if_reported : ((source : Source) (fault : Fault) (place : Place) (entry : Option Refused) → IsReportedSource source fault place entry → IsRefusedSource source)
      → ((source : Source) → IsSource source → IsRefusedSource source ↔ NothingIs (SourceDenotes source))
      → (t : FileTree) (text : List ℕ) (fault : Fault) (place : Place) (entry : Option Refused) → IsTree t → HasExpandedText t text → IsReported t.origin text fault place entry → NothingIs (TreeDenotes t)
  none_if_reported refused none t text fault place entry is has reported z d =
      (none (master_file t.origin text) (is.name, is.octets text has)).0 (refused (master_file t.origin text) fault place entry reported) z (denotes_text t text z has d)

  pub none_if_long : (t : FileTree) (text : List ℕ) → HasExpandedText t text → text_limit < length text → NothingIs (TreeDenotes t)
  none_if_long t text has long z d = let p = denotes_text t text z has d in absurd (omega (arith, long, p.within))
