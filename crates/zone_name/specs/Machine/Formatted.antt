-- The lemmas of the laws of a formatter as a sink.
use Rattle.std.specs.Prelude.{◌≡◌, ℕ, List, [], ◌∷◌, ◌++◌}
use Rattle.std.specs.Fmt.{WritesInCalls}
use Rattle.std.specs.List.{FoldsTo, concat}
use Rattle.std.proofs.Common.{◌∙◌, ap, ap₂, append_assoc, refl, subst, sym}
use Rattle.zone_name.specs.FormatterSink.{Formats}
use Rattle.zone_name.specs.declared.formatter_sink.FormatterSink.{FormatterSink}

concat_append : (xs ys : List (List ℕ)) → concat (xs ++ ys) ≡ concat xs ++ concat ys
concat_append [] ys = refl
concat_append (x ∷ xs) ys =
    ap (λ (l : List ℕ). x ++ l) (concat_append xs ys) ∙ sym (append_assoc x (concat xs) (concat ys))

module _ {W : Type 0} (writes : W → List ℕ → W → Type 0) where
  folds_append : (w : W) (xs : List (List ℕ)) (v : W) (ys : List (List ℕ)) (u : W) → FoldsTo writes w xs v
      → FoldsTo writes v ys u
      → FoldsTo writes w (xs ++ ys) u
  folds_append w [] v ys u p q = subst (λ (x : W). FoldsTo writes x ys u) (sym p) q
  folds_append w (x ∷ xs) v ys u p q = (p.0, p.1, folds_append p.0 xs v ys u p.2 q)

  calls_append : (w v u : W) (x y : List ℕ) → WritesInCalls writes w x v → WritesInCalls writes v y u
      → WritesInCalls writes w (x ++ y) u
  calls_append w v u x y p q = record {
    parts = p.parts ++ q.parts;
    calls = folds_append w p.parts v q.parts u p.calls q.calls;
    whole = concat_append p.parts q.parts ∙ ap₂ (λ a b. a ++ b) p.whole q.whole;
  }

  pub formatted_nothing : (a : FormatterSink W) → Formats writes a [] a
  formatted_nothing a = record {
    same = refl;
    before = λ p. p;
    wrote = λ _ plain. record { wrote = record { parts = []; calls = refl; whole = refl }; plain = plain };
  }

  pub formatted_twice : (a b c : FormatterSink W) (x y : List ℕ) → Formats writes a x b
      → Formats writes b y c
      → Formats writes a (x ++ y) c
  formatted_twice a b c x y first second = record {
    same = second.same ∙ first.same;
    before = λ p. first.before (second.before p);
    wrote = λ p plain.
        let front = first.wrote (second.before p) plain in
        let back = second.wrote p front.plain in
        record { wrote = calls_append _ _ _ x y front.wrote back.wrote; plain = back.plain };
  }
