use Rattle.zone_engine.proofs.Common.{◌≡◌, ◌≢◌, ℕ, [], ◌∷◌, codes, refl, ap, sym, subst, inl, inr, ⊎_elim, arith, Less, IsWithin, name_cmp, OutOfZone, Whole, outside, top, under, x, soa_of, server_of, unfinished, Labels}
use Rattle.zone_engine.proofs.Refusals.Deciding.{fits, all_of_three, outside_of}
use Rattle.zone_engine.proofs.examples.owners_outside_the_zone.Goals as goal

abbrev y : Labels
y = top (codes "y")

abbrev b_y : Labels
b_y = under (codes "b") y

other_label : codes "y" ≢ codes "x"
other_label same = let no : Path ℕ 121 120 = cc in omega arith

pub returns : goal.returns
returns c =
    unfinished (OutOfZone y) Whole
    (all_of_three _ _ _
    (fits (soa_of 1 60 1 ∷ []) (server_of b_y 60) (refl, tt) (λ same. let no : 2 ≡ 6 = same in omega arith) (λ one. refl, tt))
    (fits (soa_of 1 60 1 ∷ server_of b_y 60 ∷ []) (server_of y 60) (refl, (refl, tt)) (λ same. let no : 2 ≡ 6 = same in omega arith) (λ one. refl, (λ one. refl, tt))))
    refl
    (outside y (record {
      soa = soa_of 1 60 1;
      held_soa = (inl refl, refl);
      held_owner = (server_of y 60, inr (inr (inl refl)), refl);
      outside = outside_of (codes "y") (codes "x") other_label;
      least = λ r has out other.
          ⊎_elim (λ is. absurd (out (subst (λ t. IsWithin t.owner x) (sym is) ([], refl))))
          (⊎_elim (λ is. subst (λ t. name_cmp y t.owner ≡ Less) (sym is) refl)
          (⊎_elim (λ is. absurd (other (ap (λ t. t.owner) is))) (λ none. absurd none))) has;
    }))
