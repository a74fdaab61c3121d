-- The values of a range, and the lines for them.
use Rattle.std.proofs.Common.{◌≡◌, ℕ, zero, suc, ◌+◌, ◌-◌, ◌*◌, ◌<◌, ◌≤◌, ◌^◌, List, [], ◌∷◌, ◌++◌, length, refl, sym, ap, subst, arith, append_assoc, length-append, ◌∙◌, Option, Some, None, inl, inr, ◌⊎◌}
use Rattle.std.proofs.Math.Nat.{mul-le-mul_right}
use Rattle.std.proofs.lemmas.List.{append-nil}
use Rattle.zone_generate.proofs.OneLines.{one_line_or_not}
use Rattle.zone_generate.specs.Lines.{AreLines, IsLineFor, IsOneLine, SaysNothing, Templates, last_owner, line_of}
use Rattle.zone_generate.specs.Range.{values_from}
use Rattle.zone_generate.specs.Template.{expanded}
use Rattle.zone_generate.specs.Entry.{Generation}
use Rattle.zone_generate.specs.Steps.{AreWithin, IsAtFault, TakesLines, TakesValue}
use Rattle.zone_generate.specs.Values.{AreSmall}
use Rattle.zone_generate.specs.Written.{Appends, IfBadTemplate}
use Rattle.zone_generate.specs.declared.failing.LineFailing.{LineFailing}
use Rattle.zone_generate.specs.declared.failing.LineFailing.TheVariants.{BadTemplate, OutOfMemory}
use Rattle.zone_generate.specs.declared.range.Range.{Range}

-- ---- values

pub values_more : (count step value : ℕ) → 0 < count → values_from count step value ≡ value ∷ values_from (count - 1) step (value + step)
unfolding values_from
values_more count step value some =
    let e : count ≡ suc (count - 1) = omega arith in
    ap (λ k. values_from k step value) e

pub values_count : (count step value : ℕ) → count ≡ length (values_from count step value)
unfolding values_from
values_count zero step value = refl
values_count (suc count) step value = ap suc (values_count count step (value + step))

pub no_values : (count step value : ℕ) → count ≡ 0 → values_from count step value ≡ []
unfolding values_from
no_values count step value none = ap (λ k. values_from k step value) none

mul_more : (k step : ℕ) → k * step + step ≡ suc k * step
mul_more k step = omega arith

one_less : (count step : ℕ) → 0 < count → (count - 1) * step + step ≡ count * step
one_less count step some =
    let e : count ≡ suc (count - 1) = omega arith in
    mul_more (count - 1) step ∙ ap (λ n. n * step) (sym e)

pub small_first : (r : Range) → AreSmall r → 0 < r.count → r.start < 2 ^ 31
small_first r small some =
    let last = small.last in
    let least : 1 * r.step ≤ r.count * r.step = mul-le-mul_right r.step (omega (arith, some)) in
    omega (arith, last, least)

pub small_next : (count step start : ℕ) → start + count * step < 2 ^ 31 + step → 0 < count → start + step + (count - 1) * step < 2 ^ 31 + step
small_next count step start last some =
    let less = one_less count step some in
    omega (arith, last, less)

-- ---- the last value

last_from : (t : Templates) (count step start : ℕ) → last_owner t (values_from (suc count) step start) ≡ expanded (start + count * step) t.owner
unfolding values_from
last_from t zero step start = ap (λ v. expanded v t.owner) (omega arith)
last_from t (suc count) step start =
    let more = mul_more count step in
    let e : start + step + count * step ≡ start + suc count * step = omega (arith, more) in
    last_from t count step (start + step) ∙ ap (λ v. expanded v t.owner) e

pub last_said : (t : Templates) (count step start : ℕ) → 0 < count → last_owner t (values_from count step start) ≡ expanded (start + (count - 1) * step) t.owner
last_said t count step start some =
    let e : count ≡ suc (count - 1) = omega arith in
    ap (λ k. last_owner t (values_from k step start)) e ∙ last_from t (count - 1) step start

pub appended_last : (said : Option (List ℕ)) (old new : List ℕ) → old ≡ [] → Appends said old new → Some new ≡ said
appended_last None old new none appends = absurd appends
appended_last (Some text) old new none appends = ap Some (appends ∙ ap (λ t. t ++ text) none)

-- ---- taking the first value

pub at_fault : (failing : LineFailing) (g : Generation) (t : Templates) (value : ℕ) (left : List ℕ) → t ≡ g.templates → g.values ≡ value ∷ left → IfBadTemplate (λ at. (at ≡ value) × SaysNothing t value) failing → IfBadTemplate (IsAtFault g) failing
at_fault (BadTemplate at) g t value left same values bad = record {
  left = left;
  values = values ∙ ap (λ v. v ∷ left) (sym bad.0);
  nothing = subst (λ u. SaysNothing u at) same (subst (SaysNothing t) (sym bad.0) bad.1);
}
at_fault OutOfMemory g t value left same values bad = bad

-- ---- lines

line_or_not : (t : Templates) (value : ℕ) (o : Option (List ℕ)) → line_of t value ≡ o → SaysNothing t value ⊎ ((line : List ℕ) × IsLineFor t value line)
line_or_not t value None said = inl (λ line is. let bad : None ≡ Some line = sym said ∙ is.said in cc bad)
line_or_not t value (Some line) said = elim (one_line_or_not line) [
  | inl one ↦ inr (line, record { said = said; one = one })
  | inr other ↦ inl (λ another is. let e : Some line ≡ Some another = sym said ∙ is.said in let same : another ≡ line = cc e in other (subst IsOneLine same is.one))
]

one_line : (t : Templates) (value : ℕ) (line other : List ℕ) → IsLineFor t value line → IsLineFor t value other → line ≡ other
one_line t value line other is also = let e : Some line ≡ Some other = sym is.said ∙ also.said in cc e

pub begin_with : (t : Templates) (value : ℕ) (values line rest : List ℕ) (fault : Option ℕ) → IsLineFor t value line → AreLines t values rest fault → AreLines t (value ∷ values) (line ++ rest) fault
begin_with t value values line rest fault is others = inr (record { line = line; rest = rest; first = is; others = others; joined = refl })

pub lines_found : (t : Templates) (values : List ℕ) → (text : List ℕ) × (fault : Option ℕ) × AreLines t values text fault
lines_found t [] = ([], None, (refl, refl))
lines_found t (value ∷ values) = elim (line_or_not t value (line_of t value) refl) [
  | inl nothing ↦ ([], Some value, inl (nothing, refl, refl))
  | inr found ↦ let others = lines_found t values in (found.0 ++ others.0, others.1, begin_with t value values found.0 others.0 others.1 found.1 others.2)
]

pub one_text : (t : Templates) (values text other : List ℕ) (fault another : Option ℕ) → AreLines t values text fault → AreLines t values other another → (text ≡ other) × (fault ≡ another)
one_text t [] text other fault another are also = (are.0 ∙ sym also.0, are.1 ∙ sym also.1)
one_text t (value ∷ values) text other fault another (inl are) (inl also) = (are.1 ∙ sym also.1, are.2 ∙ sym also.2)
one_text t (value ∷ values) text other fault another (inl are) (inr also) = absurd (are.0 also.line also.first)
one_text t (value ∷ values) text other fault another (inr are) (inl also) = absurd (also.0 are.line are.first)
one_text t (value ∷ values) text other fault another (inr are) (inr also) =
    let rests = one_text t values are.rest also.rest fault another are.others also.others in
    let same : are.line ≡ also.line = one_line t value are.line also.line are.first also.first in
    (are.joined ∙ ap (λ line. line ++ are.rest) same ∙ ap (λ rest. also.line ++ rest) rests.0 ∙ sym also.joined, rests.1)

pub of_one_value : (t : Templates) (value : ℕ) (text : List ℕ) → AreLines t (value ∷ []) text None → IsLineFor t value text
of_one_value t value text (inl nothing) = let bad = nothing.2 in absurd cc
of_one_value t value text (inr are) =
    let same : are.line ≡ text = sym (append-nil are.line) ∙ ap (λ rest. are.line ++ rest) (sym are.others.0) ∙ sym are.joined in
    subst (IsLineFor t value) same are.first

pub one_value : (t : Templates) (value : ℕ) (text : List ℕ) → IsLineFor t value text → AreLines t (value ∷ []) text None
one_value t value text is = inr (record { line = text; rest = []; first = is; others = (refl, refl); joined = sym (append-nil text) })

abbrev pub AreTwo : Templates → ℕ → ℕ → List ℕ → Type 0
AreTwo t first second text = (line : List ℕ) × (next : List ℕ) × IsLineFor t first line × IsLineFor t second next × (text ≡ line ++ next)

pub of_two_values : (t : Templates) (first second : ℕ) (text : List ℕ) → AreLines t (first ∷ second ∷ []) text None → AreTwo t first second text
of_two_values t first second text (inl nothing) = let bad = nothing.2 in absurd cc
of_two_values t first second text (inr are) = (are.line, are.rest, are.first, of_one_value t second are.rest are.others, are.joined)

pub two_values : (t : Templates) (first second : ℕ) (text : List ℕ) → AreTwo t first second text → AreLines t (first ∷ second ∷ []) text None
two_values t first second text two = inr (record { line = two.0; rest = two.1; first = two.2; others = one_value t second two.1 two.3; joined = two.4 })

pub ruleset one_value_lines = (of_one_value, one_value)

pub ruleset two_value_lines = (of_two_values, two_values)

-- ---- lines that are taken one by one

pub taken : (old new : Generation) (value : ℕ) (before after rest : List ℕ) (fault : Option ℕ) → TakesValue old value new before after → AreLines new.templates new.values rest fault → (text : List ℕ) × AreLines old.templates old.values text fault × (after ++ rest ≡ before ++ text)
taken old new value before after rest fault takes are =
    let others : AreLines old.templates new.values rest fault = subst (λ t. AreLines t new.values rest fault) takes.templates are in
    let all : AreLines old.templates (value ∷ new.values) (takes.line ++ rest) fault = begin_with old.templates value new.values takes.line rest fault takes.is others in
    (takes.line ++ rest, subst (λ v. AreLines old.templates v (takes.line ++ rest) fault) (sym takes.values) all, ap (λ t. t ++ rest) takes.appended ∙ append_assoc before takes.line rest)

pub none_left : (g : Generation) → g.values ≡ [] → AreLines g.templates g.values [] None
none_left g none = subst (λ v. AreLines g.templates v [] None) (sym none) (refl, refl)

pub stopped : (g : Generation) (value : ℕ) → IsAtFault g value → AreLines g.templates g.values [] (Some value)
stopped g value is = subst (λ v. AreLines g.templates v [] (Some value)) (sym is.values) (inl (is.nothing, refl, refl))

pub ruleset taken_lines = (taken, none_left, stopped)

-- ---- several lines

pub lines_joined : (t : Templates) (values others lines rest : List ℕ) (fault : Option ℕ) → AreLines t values lines None → AreLines t others rest fault → AreLines t (values ++ others) (lines ++ rest) fault
lines_joined t [] others lines rest fault are more = subst (λ x. AreLines t others (x ++ rest) fault) (sym are.0) more
lines_joined t (value ∷ values) others lines rest fault (inl nothing) more = absurd (let bad = nothing.2 in cc)
lines_joined t (value ∷ values) others lines rest fault (inr are) more =
    subst (λ x. AreLines t (value ∷ (values ++ others)) x fault)
    (sym (append_assoc are.line are.rest rest) ∙ ap (λ x. x ++ rest) (sym are.joined))
    (begin_with t value (values ++ others) are.line (are.rest ++ rest) fault are.first (lines_joined t values others are.rest rest fault are.others more))

pub none_taken : (g : Generation) (before : List ℕ) → TakesLines g g before before
none_taken g before = record { values = []; lines = []; are = (refl, refl); appended = sym (append-nil before); templates = refl; others = refl }

pub one_taken : (a b c : Generation) (value : ℕ) (x y z : List ℕ) → TakesLines a b x y → TakesValue b value c y z → TakesLines a c x z
one_taken a b c value x y z f g = record {
  values = f.values ++ value ∷ [];
  lines = f.lines ++ g.line;
  are = lines_joined a.templates f.values (value ∷ []) f.lines g.line None f.are (one_value a.templates value g.line (subst (λ t. IsLineFor t value g.line) f.templates g.is));
  appended = g.appended ∙ ap (λ t. t ++ g.line) f.appended ∙ append_assoc x f.lines g.line;
  templates = g.templates ∙ f.templates;
  others = f.others ∙ ap (λ t. f.values ++ t) g.values ∙ sym (append_assoc f.values (value ∷ []) c.values);
}

pub same_taken : (a b c : Generation) (x y z : List ℕ) → TakesLines a b x y → c ≡ b → z ≡ y → TakesLines a c x z
same_taken a b c x y z f e w = subst (λ (g : Generation). TakesLines a g x z) (sym e) (subst (λ t. TakesLines a b x t) (sym w) f)

pub taken_within : (a b c : Generation) (most value : ℕ) (x y z : List ℕ) → TakesLines a b x y → TakesValue b value c y z → length y - length x < most → AreWithin most a.templates x z
taken_within a b c most value x y z f g few = inr (record {
  value = value;
  front = f.lines;
  line = g.line;
  is = subst (λ t. IsLineFor t value g.line) f.templates g.is;
  appended = g.appended ∙ ap (λ t. t ++ g.line) f.appended ∙ append_assoc x f.lines g.line;
  within = omega (arith, few, ap length f.appended, length-append x f.lines);
})

pub fewer_left : (old new : Generation) (before after : List ℕ) → TakesLines old new before after → length before < length after → length new.values < length old.values
fewer_left old new before after f more = by f.values f.are f.others
  where
    by : (values : List ℕ) → AreLines old.templates values f.lines None → old.values ≡ values ++ new.values → length new.values < length old.values
    by [] are is = absurd (omega (arith, ap length f.appended, length-append before f.lines, ap length are.0, more))
    by (value ∷ values) are is = omega (arith, ap length is, length-append (value ∷ values) new.values)
