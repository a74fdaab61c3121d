-- The texts of parameters.
use Rattle.type_data.proofs.Common.{BeginWith, BeginWithTouchingQuote, Bool, DataItem, IsCutFirst, IsMissing, List, ParameterText, TouchingItem, [], alone, ap, arith, bare_value, drop, given, item_text, length, map, placed, quoted_value, raw, refl, subst, sym, true, ℕ, ◌++◌, ◌<◌, ◌∙◌, ◌∷◌, ◌≡◌}
use Rattle.std.proofs.Common.{Bor}
use Rattle.zone_rdata.specs.Item.{bare, quoted}
use Rattle.zone_rdata.specs.declared.item.Item.TheVariants.{Bare}
use Rattle.type_data.proofs.Cuts.{first_once, stands_in}

first_bare : (items rest : List DataItem) (first : DataItem) (text : Bor (List ℕ)) → items ≡ first ∷ rest → first.item ≡ Bare text → map given items ≡ placed (bare text.now) first.touches ∷ map given rest
first_bare items rest first text e is = ap (map given) e ∙ ap (λ i. placed (raw i) first.touches ∷ map given rest) is

after_one : (items rest : List DataItem) (first : DataItem) (text : ParameterText) → items ≡ first ∷ rest → BeginWith (map given items) text (map given rest) → BeginWith (map given items) text (map given (drop 1 items))
after_one items rest first text e begin = subst (λ t. BeginWith (map given items) text (map given t)) (sym (ap (drop 1) e)) begin

pub begin_alone : (items rest : List DataItem) (first : DataItem) (text : Bor (List ℕ)) → items ≡ first ∷ rest → first.item ≡ Bare text → IsMissing 61 text.now → BeginWith (map given items) (record { key = text.now; value = [] }) (map given (drop 1 items))
begin_alone items rest first text e is lacks = after_one items rest first (record { key = text.now; value = [] }) e (alone first.touches lacks refl (first_bare items rest first text e is))

pub begin_bare : (items rest : List DataItem) (first : DataItem) (text : Bor (List ℕ)) (key value : List ℕ) → items ≡ first ∷ rest → first.item ≡ Bare text → IsCutFirst 61 text.now key value → (value ≡ [] → BeginWithTouchingQuote (map given rest) → ⊥) → BeginWith (map given items) (record { key = key; value = value }) (map given (drop 1 items))
begin_bare items rest first text key value e is cut none = after_one items rest first (record { key = key; value = value }) e (bare_value first.touches cut.missing none (first_bare items rest first text e is ∙ ap (λ t. placed (bare t) first.touches ∷ map given rest) cut.parts))

pub begin_quoted : (items rest : List DataItem) (first : DataItem) (text : Bor (List ℕ)) (key value inside : List ℕ) → items ≡ first ∷ rest → first.item ≡ Bare text → IsCutFirst 61 text.now key value → value ≡ [] → map given rest ≡ placed (quoted inside) true ∷ map given (drop 1 rest) → BeginWith (map given items) (record { key = key; value = inside }) (map given (drop 2 items))
begin_quoted items rest first text key value inside e is cut empty found =
    subst (λ t. BeginWith (map given items) (record { key = key; value = inside }) (map given t)) (sym (ap (drop 2) e))
    (quoted_value first.touches cut.missing (first_bare items rest first text e is ∙ ap (λ t. placed (bare t) first.touches ∷ map given rest) (cut.parts ∙ ap (λ t. key ++ 61 ∷ t) empty) ∙ ap (λ t. placed (bare (key ++ 61 ∷ [])) first.touches ∷ t) found))

pub some_value : (value : List ℕ) → 0 < length value → value ≡ [] → ⊥
some_value value some e = omega (arith, some, ap length e)

-- ---- items begin with one parameter

-- the text of the first item
abbrev head_text : List TouchingItem → List ℕ
head_text [] = []
head_text (i ∷ items) = item_text i.item

heads : (a b : List ℕ) (t u : Bool) (r s : List TouchingItem) → placed (bare a) t ∷ r ≡ placed (bare b) u ∷ s → (a ≡ b) × (r ≡ s)
heads a b t u r s e = (ap head_text e, cc)

quotes : (a b : List ℕ) (r s : List TouchingItem) → placed (quoted a) true ∷ r ≡ placed (quoted b) true ∷ s → (a ≡ b) × (r ≡ s)
quotes a b r s e = (ap head_text e, cc)

text_same : (s t : ParameterText) → s.key ≡ t.key → s.value ≡ t.value → s ≡ t
text_same s t e f = λ i. record { key = e i; value = f i }

pub begin_once : (items : List TouchingItem) (s t : ParameterText) (q r : List TouchingItem) → BeginWith items s q → BeginWith items t r → (s ≡ t) × (q ≡ r)
begin_once items s t q r (alone u l v e) (alone w m x f) =
    let h = heads s.key t.key u w q r (sym e ∙ f) in
    (text_same s t h.0 (v ∙ sym x), h.1)
begin_once items s t q r (alone u l v e) (bare_value w m x f) = absurd (stands_in 61 s.key t.key t.value (heads s.key (t.key ++ 61 ∷ t.value) u w q r (sym e ∙ f)).0 l)
begin_once items s t q r (alone u l v e) (quoted_value w m f) = absurd (stands_in 61 s.key t.key [] (heads s.key (t.key ++ 61 ∷ []) u w q (placed (quoted t.value) true ∷ r) (sym e ∙ f)).0 l)
begin_once items s t q r (bare_value u l v e) (alone w m x f) = absurd (stands_in 61 t.key s.key s.value (heads t.key (s.key ++ 61 ∷ s.value) w u r q (sym f ∙ e)).0 m)
begin_once items s t q r (bare_value u l v e) (bare_value w m x f) =
    let h = heads (s.key ++ 61 ∷ s.value) (t.key ++ 61 ∷ t.value) u w q r (sym e ∙ f) in
    let k = first_once 61 s.key s.value t.key t.value l m h.0 in
    (text_same s t k.0 k.1, h.1)
begin_once items s t q r (bare_value u l v e) (quoted_value w m f) =
    let h = heads (s.key ++ 61 ∷ s.value) (t.key ++ 61 ∷ []) u w q (placed (quoted t.value) true ∷ r) (sym e ∙ f) in
    absurd (v (first_once 61 s.key s.value t.key [] l m h.0).1 (t.value, r, h.1))
begin_once items s t q r (quoted_value u l e) (alone w m x f) = absurd (stands_in 61 t.key s.key [] (heads t.key (s.key ++ 61 ∷ []) w u r (placed (quoted s.value) true ∷ q) (sym f ∙ e)).0 m)
begin_once items s t q r (quoted_value u l e) (bare_value w m x f) =
    let h = heads (t.key ++ 61 ∷ t.value) (s.key ++ 61 ∷ []) w u r (placed (quoted s.value) true ∷ q) (sym f ∙ e) in
    absurd (x (first_once 61 t.key t.value s.key [] m l h.0).1 (s.value, q, h.1))
begin_once items s t q r (quoted_value u l e) (quoted_value w m f) =
    let h = heads (s.key ++ 61 ∷ []) (t.key ++ 61 ∷ []) u w (placed (quoted s.value) true ∷ q) (placed (quoted t.value) true ∷ r) (sym e ∙ f) in
    let k = first_once 61 s.key [] t.key [] l m h.0 in
    let n = quotes s.value t.value q r h.1 in
    (text_same s t k.0 n.0, n.1)
