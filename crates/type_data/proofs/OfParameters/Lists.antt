-- Lists whose texts are parted by commas.
use Rattle.type_data.proofs.Common.{AllZip, AppendsStated, IsCutFirst, IsMissing, List, ListsAddresses, NothingIs, [], ap, append_assoc, flat_map, flat_map_more, listed, refl, split_cut, split_lacks, subst, sym, ℕ, ◌++◌, ◌∙◌, ◌∷◌, ◌≡◌}

-- ---- two lists that go together

pub zip_append : {A B : Type 0} (R : A → B → Type 0) (ks bs : List A) (xs ys : List B) → AllZip R ks xs → AllZip R bs ys → AllZip R (ks ++ bs) (xs ++ ys)
zip_append R [] bs [] ys p q = q
zip_append R [] bs (x ∷ xs) ys p q = absurd p
zip_append R (a ∷ ks) bs [] ys p q = absurd p
zip_append R (a ∷ ks) bs (x ∷ xs) ys p q = (p.0, zip_append R ks bs xs ys p.1 q)

-- what stands in the middle has a partner
pub zip_at : {A B : Type 0} (R : A → B → Type 0) (ks : List A) (b : A) (bs : List A) (xs : List B) → AllZip R (ks ++ b ∷ bs) xs → (x : B) × R b x
zip_at R [] b bs [] p = absurd p
zip_at R [] b bs (x ∷ xs) p = (x, p.0)
zip_at R (a ∷ ks) b bs [] p = absurd p
zip_at R (a ∷ ks) b bs (x ∷ xs) p = zip_at R ks b bs xs p.1

pub zip_once : {A B : Type 0} (R : A → B → Type 0) → ((a : A) (x y : B) → R a x → R a y → x ≡ y) → (ks : List A) (xs ys : List B) → AllZip R ks xs → AllZip R ks ys → xs ≡ ys
zip_once R once [] [] [] p q = refl
zip_once R once [] [] (y ∷ ys) p q = absurd q
zip_once R once [] (x ∷ xs) ys p q = absurd p
zip_once R once (a ∷ ks) [] ys p q = absurd p
zip_once R once (a ∷ ks) (x ∷ xs) [] p q = absurd q
zip_once R once (a ∷ ks) (x ∷ xs) (y ∷ ys) p q = cc (once a x y p.0 q.0, zip_once R once ks xs ys p.1 q.1)

-- ---- a text up to a comma

listed_cut : (text front back : List ℕ) → IsCutFirst 44 text front back → listed text ≡ front ∷ listed back
listed_cut text front back cut = split_cut 44 text front back (record { parted = cut.parts; lacks = cut.missing })

listed_last : (text : List ℕ) → IsMissing 44 text → listed text ≡ text ∷ []
listed_last text lacks = split_lacks 44 text lacks

-- what the texts up to a place stand for
pub record HasListed {X : Type 0} (Is : List ℕ → X → Type 0) (text rest : List ℕ) (done : List X) : Type 0 where
  pub before : List (List ℕ)
  pub parts : listed text ≡ before ++ listed rest
  pub each : AllZip Is before done

pub lists_more : {X : Type 0} (Is : List ℕ → X → Type 0) (text rest front back : List ℕ) (done : List X) (x : X) → HasListed Is text rest done → IsCutFirst 44 rest front back → Is front x → HasListed Is text back (done ++ x ∷ [])
lists_more Is text rest front back done x has cut is = record {
  before = has.before ++ front ∷ [];
  parts = has.parts ∙ ap (λ t. has.before ++ t) (listed_cut rest front back cut) ∙ sym (append_assoc has.before (front ∷ []) (listed back));
  each = zip_append Is has.before (front ∷ []) done (x ∷ []) has.each (is, tt);
}

pub lists_all : {X : Type 0} (Is : List ℕ → X → Type 0) (text rest : List ℕ) (done : List X) (x : X) → HasListed Is text rest done → IsMissing 44 rest → Is rest x → AllZip Is (listed text) (done ++ x ∷ [])
lists_all Is text rest done x has lacks is = rw (has.parts, listed_last rest lacks) (zip_append Is has.before (rest ∷ []) done (x ∷ []) has.each (is, tt))

pub lists_stop : {X : Type 0} (Is : List ℕ → X → Type 0) (text rest front back : List ℕ) (done : List X) → HasListed Is text rest done → IsCutFirst 44 rest front back → NothingIs (Is front) → NothingIs (AllZip Is (listed text))
lists_stop Is text rest front back done has cut none xs each =
    let parts = has.parts ∙ ap (λ t. has.before ++ t) (listed_cut rest front back cut) in
    let found = zip_at Is has.before front (listed back) xs (subst (λ t. AllZip Is t xs) parts each) in
    none found.0 found.1

pub lists_stop_last : {X : Type 0} (Is : List ℕ → X → Type 0) (text rest : List ℕ) (done : List X) → HasListed Is text rest done → IsMissing 44 rest → NothingIs (Is rest) → NothingIs (AllZip Is (listed text))
lists_stop_last Is text rest done has lacks none xs each =
    let parts = has.parts ∙ ap (λ t. has.before ++ t) (listed_last rest lacks) in
    let found = zip_at Is has.before rest [] xs (subst (λ t. AllZip Is t xs) parts each) in
    none found.0 found.1

-- ---- addresses

pub record HasAddresses (Is : List ℕ → List ℕ → Type 0) (text rest old new : List ℕ) : Type 0 where
  pub done : List (List ℕ)
  pub has : HasListed Is text rest done
  pub value : new ≡ old ++ flat_map (λ address. address) done

addresses_grown : (done : List (List ℕ)) (old new next octets : List ℕ) → new ≡ old ++ flat_map (λ address. address) done → next ≡ new ++ octets → next ≡ old ++ flat_map (λ address. address) (done ++ octets ∷ [])
addresses_grown done old new next octets e f = f ∙ ap (λ t. t ++ octets) e ∙ append_assoc old _ octets ∙ ap (λ t. old ++ t) (flat_map_more (λ address. address) [] done octets)

pub addresses_more : (Is : List ℕ → List ℕ → Type 0) (text rest front back old new next : List ℕ) → HasAddresses Is text rest old new → IsCutFirst 44 rest front back → AppendsStated (Is front) new next → HasAddresses Is text back old next
addresses_more Is text rest front back old new next read cut added = record {
  done = read.done ++ added.octets ∷ [];
  has = lists_more Is text rest front back read.done added.octets read.has cut added.stated;
  value = addresses_grown read.done old new next added.octets read.value added.written;
}

pub addresses_all : (Is : List ℕ → List ℕ → Type 0) (text rest old new next : List ℕ) → HasAddresses Is text rest old new → IsMissing 44 rest → AppendsStated (Is rest) new next → AppendsStated (ListsAddresses Is text) old next
addresses_all Is text rest old new next read lacks added = record {
  octets = flat_map (λ address. address) (read.done ++ added.octets ∷ []);
  stated = record { addresses = read.done ++ added.octets ∷ []; each = lists_all Is text rest read.done added.octets read.has lacks added.stated; value = refl };
  written = addresses_grown read.done old new next added.octets read.value added.written;
}

pub addresses_stop : (Is : List ℕ → List ℕ → Type 0) (text rest front back old new : List ℕ) → HasAddresses Is text rest old new → IsCutFirst 44 rest front back → NothingIs (Is front) → NothingIs (ListsAddresses Is text)
addresses_stop Is text rest front back old new read cut none octets are = lists_stop Is text rest front back read.done read.has cut none are.addresses are.each

pub addresses_stop_last : (Is : List ℕ → List ℕ → Type 0) (text rest old new : List ℕ) → HasAddresses Is text rest old new → IsMissing 44 rest → NothingIs (Is rest) → NothingIs (ListsAddresses Is text)
addresses_stop_last Is text rest old new read lacks none octets are = lists_stop_last Is text rest read.done read.has lacks none are.addresses are.each

pub addresses_once : (Is : List ℕ → List ℕ → Type 0) → ((text a b : List ℕ) → Is text a → Is text b → a ≡ b) → (text a b : List ℕ) → ListsAddresses Is text a → ListsAddresses Is text b → a ≡ b
addresses_once Is once text a b x y =
    let same = zip_once Is once (listed text) x.addresses y.addresses x.each y.each in
    x.value ∙ ap (λ t. flat_map (λ address. address) t) same ∙ sym y.value
