-- Words of further types: each is that of one type at most.
use Rattle.type_data.proofs.Common.{Bool, FurtherType, IfNone, IfSome, IsCapped, IsFurtherWord, IsWordAmong, List, Named, None, NothingIs, Option, Some, ap, arith, by_mnemonic, by_number, codes, eqb-true, find_mapped, folded_label, found_each, found_passes, further_names, further_of, further_type, further_types, is_number, mnemonic_among, nat_lt, nat_tests, option_copied, option_map, own_numbers, refl, subst, sym, true, unlike, word_once, ℕ, ◌<◌, ◌==◌, ◌∙◌, ◌≡◌, early_types, late_types, signed_types, list_all, ◌≤◌}
use Rattle.std.proofs.Common.{Bor}
use Rattle.zone_rdata.specs.Table.{ascends}
use Rattle.type_data.proofs.Registered.{IsRegistered, registered_further, registered_name}
use Rattle.type_data.specs.declared.table.FurtherType as code
use Rattle.type_data.proofs.OfKinds.Word.Once.{word_of_type_once}

abbrev pub IsWord : List ℕ → ℕ → Type 0
IsWord word n = IsWordAmong further_names (codes "TYPE") word n

pub further_number_once : (word : List ℕ) (m n : ℕ) → IsWord word m → IsWord word n → m ≡ n
unfolding is_number own_numbers unlike early_types late_types signed_types
further_number_once word = word_once further_names (codes "TYPE") refl refl word

pub further_ascend : ascends further_names ≡ true
unfolding early_types late_types signed_types
further_ascend = refl

-- a word is that of one further type at most
pub further_word_once : (word : List ℕ) (a b : FurtherType) → IsFurtherWord word a → IsFurtherWord word b → a ≡ b
further_word_once word a b p q =
    let same : further_type a.number ≡ further_type b.number = ap further_type (further_number_once word a.number b.number p.named q.named) in
    let e : Some a ≡ Some b = sym p.row ∙ same ∙ q.row in
    cc e

abbrev is_short : FurtherType → Bool
is_short f = nat_lt f.number 65536

are_short : list_all is_short further_types ≡ true
unfolding early_types late_types signed_types
are_short = refl

-- the type of a number has that number, of 16 bits
pub numbered : (n : ℕ) (f : FurtherType) → further_type n ≡ Some f → (n ≡ f.number) × (n < 65536)
numbered n f e =
    let own : n ≡ f.number = eqb-true n f.number (found_passes (λ (f : FurtherType). n == f.number) further_types f e) in
    let short : nat_lt f.number 65536 ≡ true = found_each is_short (λ (f : FurtherType). n == f.number) further_types f are_short e in
    (own, grind (arith, nat_tests))

over_none : (n : ℕ) (found : Option FurtherType) → further_type n ≡ found → 65536 ≤ n → found ≡ None
over_none n None e many = refl
over_none n (Some f) e many = absurd (let own = numbered n f e in let low = own.1 in omega arith)

pub no_type_over : (n : ℕ) → 65536 ≤ n → further_type n ≡ None
no_type_over n many = over_none n (further_type n) refl many

-- the word of a registered type whose number is that of a further type
abbrev name_row : FurtherType → Named
name_row f = record { number = f.number; mnemonic = f.mnemonic }

own_name : (f : FurtherType) → further_type f.number ≡ Some f → mnemonic_among further_names f.number ≡ Some f.mnemonic
own_name f row =
    ap (option_map (λ (n : Named). n.mnemonic)) (find_mapped name_row (λ (n : Named). f.number == n.number) further_types)
    ∙ ap (λ o. option_map (λ (n : Named). n.mnemonic) (option_map name_row o)) row

further_word : (word : List ℕ) (f : FurtherType) → further_type f.number ≡ Some f → IsRegistered word f.number → IsWord word f.number
further_word word f row (by_number is) = by_number is
further_word word f row (by_mnemonic is) =
    let same : Some f.mnemonic ≡ Some is.name = sym (registered_name f.number f.mnemonic (own_name f row)) ∙ is.row in
    let name : f.mnemonic ≡ is.name = cc same in
    by_mnemonic (record { name = f.mnemonic; row = own_name f row; same = is.same ∙ ap folded_label (sym name) })

pub further_found : (word : List ℕ) (n : ℕ) (r : Option (Bor code.FurtherType)) → IsCapped (IsRegistered word) n → option_map further_of (option_copied r) ≡ further_type n → IfSome r (λ row. IsFurtherWord word (further_of row.now))
further_found word n None capped e = tt
further_found word n (Some row) capped e = let own = numbered n (further_of row.now) (sym e) in let m_is : capped.0 ≡ (further_of row.now).number = let c = capped.1.1 in let a = own.0 in let b = own.1 in omega arith in let its : further_type (further_of row.now).number ≡ Some (further_of row.now) = ap further_type (sym own.0) ∙ (sym e) in record { named = further_word word (further_of row.now) its (subst (IsRegistered word) m_is capped.1.0); row = its }

no_row : (word : List ℕ) (n : ℕ) → IsCapped (IsRegistered word) n → further_type n ≡ None → NothingIs (IsFurtherWord word)
no_row word n capped e f p =
    let own = numbered f.number f p.row in
    let m_is : capped.0 ≡ f.number = word_of_type_once word capped.0 f.number capped.1.0 (registered_further word f.number p.named) in
    let n_is : n ≡ f.number = let c = capped.1.1 in let b = own.1 in omega arith in
    let bad : Some f ≡ None = sym p.row ∙ ap further_type (sym n_is) ∙ e in
    cc bad

pub no_further_found : (word : List ℕ) (n : ℕ) (r : Option (Bor code.FurtherType)) → IsCapped (IsRegistered word) n → option_map further_of (option_copied r) ≡ further_type n → IfNone r (NothingIs (IsFurtherWord word))
no_further_found word n None capped e = no_row word n capped (sym e)
no_further_found word n (Some row) capped e = tt
