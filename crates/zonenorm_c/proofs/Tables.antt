-- From the readers of a table of files, which were opened, to the files that the table gives.
use Rattle.std.proofs.Common.{◌≡◌, ◌∙◌, ◌++◌, ℕ, List, [], ◌∷◌, ap, subst, sym}
use Rattle.std.specs.Prelude.{Option, Some, ⊤}
use Rattle.std.specs.Io.KnownBytes.{Appends}
use Rattle.zone_name.specs.Common.{Labels}
use Rattle.zone_name.specs.Spelling.{SpellsCased}
use Rattle.std.specs.Prelude.{None}
use Rattle.zone_print.specs.Device.{Device}
use Rattle.zone_set.specs.Zone.{Zone}
use Rattle.zone_engine.specs.declared.octets.OctetSlice.{OctetSlice}
use Rattle.zone_files.specs.ExpandedLoader.{FilesDenote}
use Rattle.zone_files.specs.Expansion.{Ending, Files, IsExpanded}
use Rattle.zone_files.specs.Reading.{Begins, EachFile, Has, OpenedFile, OpensEach, ReadsFiles, ReadsPart, octets_in}
use Rattle.zonenorm_c.specs.Expand.{AreReadOf, IsExpansion}
use Rattle.zonenorm_c.specs.Files.{AreGiven, DenotesFiles, IsDirectory, given_file, main_name}
use Rattle.zonenorm_c.specs.Tables.{OpensGiven}
use Rattle.zonenorm_c.specs.declared.file_table.FileTable.{FileTable}
use Rattle.zonenorm_c.specs.declared.given.Given.{Given}

abbrev slice_state : OctetSlice → Device
slice_state slice = record { octets = Some slice.rest.now; works = ⊤; failed = ⊥ }

module _ (given : Given) where
  abbrev pub table : FileTable
  table = record { names = given.names; files = given.files }

  each_given : (new : FileTable) (opened : List (OpenedFile OctetSlice)) (octets : List (List ℕ)) → OpensEach OpensGiven table opened new → EachFile (Has slice_state) opened octets
      → AreGiven given octets
  each_given new [] [] opens each = tt
  each_given new [] (o ∷ octets) opens each = absurd each
  each_given new (it ∷ opened) [] opens each = absurd each
  each_given new (it ∷ opened) (o ∷ octets) (next, (same, found), opens) (has, each) = (
    (it.name, sym found ∙ ap (λ (t : List ℕ). Some t) has),
    each_given new opened octets (subst (λ (t : FileTable). OpensEach OpensGiven t opened new) same opens) each,
  )

  pub denotes_given : (new : FileTable) (directory : Option (List ℕ)) (cased : Labels) (main : OctetSlice) (z : Zone) → given.kind ≡ 3
      → SpellsCased None given.origin.now cased → IsDirectory given.directory.now directory → main.rest ≡ given.octets
      → ((octets : List ℕ) × (tree : Files) × ReadsFiles OpensGiven slice_state main table new octets tree × FilesDenote directory main_name cased octets tree z)
      → DenotesFiles given z
  denotes_given new directory cased main z kind spells folder same (octets, tree, reads, denotes) = record {
    kind = kind;
    cased = cased;
    directory = directory;
    tree = tree;
    is = record { spells = spells; folder = folder; from = each_given new reads.opened (octets_in tree) reads.opens reads.each };
    denotes = subst (λ (o : List ℕ). FilesDenote directory main_name cased o tree z) (sym reads.main_has ∙ ap (λ s. s.now) same) denotes;
  }

  each_read : (new : FileTable) (opened : List (OpenedFile OctetSlice)) (octets : List (List ℕ)) → OpensEach OpensGiven table opened new → EachFile (Begins slice_state) opened octets
      → AreReadOf given octets
  each_read new [] [] opens each = tt
  each_read new [] (o ∷ octets) opens each = absurd each
  each_read new (it ∷ opened) [] opens each = absurd each
  each_read new (it ∷ opened) (o ∷ octets) (next, (same, found), opens) ((rest, begins), each) = (
    (it.name, rest, sym found ∙ ap (λ (t : List ℕ). Some t) begins),
    each_read new opened octets (subst (λ (t : FileTable). OpensEach OpensGiven t opened new) same opens) each,
  )

  pub expands_given : (new : FileTable) (directory : Option (List ℕ)) (cased : Labels) (main : OctetSlice) (before after written : List ℕ)
      → SpellsCased None given.origin.now cased → IsDirectory given.directory.now directory → main.rest ≡ given.octets → before ≡ [] → written ≡ after
      → ((octets : List ℕ) × (tree : Files) × (made : List ℕ) × (ending : Ending) × ReadsPart OpensGiven slice_state main table new octets tree
      × IsExpanded directory main_name cased octets tree made ending × Appends (Some before) (Some after) made)
      → IsExpansion given written
  expands_given new directory cased main before after written spells folder same none all (octets, tree, made, ending, reads, is, appends) =
      let begins = reads.main_begins in
      record {
        cased = cased;
        spells = spells;
        directory = directory;
        folder = folder;
        octets = octets;
        rest = begins.0;
        whole = ap (λ s. s.now) (sym same) ∙ begins.1;
        tree = tree;
        from = each_read new reads.opened (octets_in tree) reads.opens reads.each;
        ending = ending;
        is = subst (λ (t : List ℕ). IsExpanded directory main_name cased octets tree t ending) (sym (all ∙ appends ∙ ap (λ (t : List ℕ). t ++ made) none)) is;
      }
