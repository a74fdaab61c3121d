-- The keys of parameters (RFC 9460 2.1, 14.3.2; `ech` RFC 9848, `dohpath` RFC 9461 5, `ohttp` RFC
-- 9540 4).
use Rattle.std.specs.Prelude.{◌≡◌, ℕ, ◌<◌, ◌++◌, List, codes, decimal}
use Rattle.type_data.specs.declared.parameters.key.Key.{Key}
use Rattle.type_data.specs.declared.parameters.key.Key.TheVariants.{Mandatory, Alpn, NoDefaultAlpn, Port, Ipv4Hint, Ech, Ipv6Hint, DohPath, Ohttp, Numbered}

abbrev pub number_of : Key → ℕ
number_of Mandatory = 0
number_of Alpn = 1
number_of NoDefaultAlpn = 2
number_of Port = 3
number_of Ipv4Hint = 4
number_of Ech = 5
number_of Ipv6Hint = 6
number_of DohPath = 7
number_of Ohttp = 8
number_of (Numbered number) = number

-- a name in lower case, or `key` and a number without leading zeros
abbrev pub key_text : Key → List ℕ
key_text Mandatory = codes "mandatory"
key_text Alpn = codes "alpn"
key_text NoDefaultAlpn = codes "no-default-alpn"
key_text Port = codes "port"
key_text Ipv4Hint = codes "ipv4hint"
key_text Ech = codes "ech"
key_text Ipv6Hint = codes "ipv6hint"
key_text DohPath = codes "dohpath"
key_text Ohttp = codes "ohttp"
key_text (Numbered number) = codes "key" ++ decimal number

-- the text is that of the key; 65535 is none (RFC 9460 14.3.2)
pub record SpellsKey (text : List ℕ) (key : Key) : Type 0 where
  pub spelt : text ≡ key_text key
  pub valid : number_of key < 65535
