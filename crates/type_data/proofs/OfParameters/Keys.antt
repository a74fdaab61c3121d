-- The keys of parameters.
use Rattle.type_data.proofs.Common.{Alpn, DohPath, Ech, HasName, Ipv4Hint, Ipv6Hint, IsCapped, IsDecimal, IsKeyNumber, Key, List, Mandatory, NoDefaultAlpn, None, Numbered, Ohttp, Option, Port, Some, SpellsKey, ap, append_cancel_left, arith, bytes_eq, codes, cond, get_or, key_text, refl, subst, sym, ℕ, ◌++◌, ◌∙◌, ◌≡◌}
use Rattle.std.proofs.Common.{decimal}
use Rattle.zone_rdata.proofs.Items.GenericLaws.{decimal-is}

-- digits without leading zeros are digits
pub key_number_is : (digits : List ℕ) (n : ℕ) → IsKeyNumber digits n → IsDecimal digits n
key_number_is digits n is = subst (λ t. IsDecimal t n) (sym is.0) (decimal-is n (omega (arith, is.1)))

pub key_number_read : (digits : List ℕ) (n a : ℕ) → IsCapped (IsDecimal digits) n → IsKeyNumber digits a → n ≡ a
key_number_read digits n a found is =
    let same = (key_number_is digits a is).value in
    let read = found.1.0.value in
    omega (arith, found.1.1, same, read, is.1)

-- no name begins with `key`
named_otherwise : (key : Key) (rest : List ℕ) → HasName key → key_text key ≡ codes "key" ++ rest → ⊥
named_otherwise Mandatory rest has e = omega (arith, ap (λ t. get_or t 0 0) e)
named_otherwise Alpn rest has e = omega (arith, ap (λ t. get_or t 0 0) e)
named_otherwise NoDefaultAlpn rest has e = omega (arith, ap (λ t. get_or t 0 0) e)
named_otherwise Port rest has e = omega (arith, ap (λ t. get_or t 0 0) e)
named_otherwise Ipv4Hint rest has e = omega (arith, ap (λ t. get_or t 0 0) e)
named_otherwise Ech rest has e = omega (arith, ap (λ t. get_or t 0 0) e)
named_otherwise Ipv6Hint rest has e = omega (arith, ap (λ t. get_or t 0 0) e)
named_otherwise DohPath rest has e = omega (arith, ap (λ t. get_or t 0 0) e)
named_otherwise Ohttp rest has e = omega (arith, ap (λ t. get_or t 0 0) e)
named_otherwise (Numbered n) rest has e = absurd has

-- the key of a name
named : List ℕ → Option Key
named text =
    cond (bytes_eq text (codes "mandatory")) (Some Mandatory)
    (cond (bytes_eq text (codes "alpn")) (Some Alpn)
    (cond (bytes_eq text (codes "no-default-alpn")) (Some NoDefaultAlpn)
    (cond (bytes_eq text (codes "port")) (Some Port)
    (cond (bytes_eq text (codes "ipv4hint")) (Some Ipv4Hint)
    (cond (bytes_eq text (codes "ech")) (Some Ech)
    (cond (bytes_eq text (codes "ipv6hint")) (Some Ipv6Hint)
    (cond (bytes_eq text (codes "dohpath")) (Some DohPath)
    (cond (bytes_eq text (codes "ohttp")) (Some Ohttp) None))))))))

named_is : (key : Key) → HasName key → named (key_text key) ≡ Some key
unfolding named
named_is (Numbered n) has = absurd has
named_is key has = refl

named_once : (text : List ℕ) (a b : Key) → HasName a → HasName b → text ≡ key_text a → text ≡ key_text b → a ≡ b
named_once text a b x y e f =
    let both = sym (named_is a x) ∙ ap named (sym e ∙ f) ∙ named_is b y in
    cc

key_by : (text : List ℕ) (n : ℕ) (b : Key) → HasName b → SpellsKey text (Numbered n) → SpellsKey text b → ⊥
key_by text n b has x y = named_otherwise b (decimal n) has (sym y.spelt ∙ x.spelt)

pub key_once : (text : List ℕ) (a b : Key) → SpellsKey text a → SpellsKey text b → a ≡ b
key_once text (Numbered m) (Numbered n) x y = ap Numbered ((key_number_is (decimal m) m (refl, x.valid)).value ∙ sym (key_number_is (decimal m) n (append_cancel_left (codes "key") (decimal m) (decimal n) (sym x.spelt ∙ y.spelt), y.valid)).value)
key_once text (Numbered n) b x y = absurd (key_by text n b tt x y)
key_once text a (Numbered n) x y = absurd (key_by text n a tt y x)
key_once text a b x y = named_once text a b tt tt x.spelt y.spelt
