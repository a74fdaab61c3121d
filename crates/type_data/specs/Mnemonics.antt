-- The mnemonics of numbers that stand in data, a row each, their numbers ascending.
use Rattle.std.specs.Prelude.{ℕ, ◌⊎◌, List, [], ◌∷◌, codes}
use Rattle.zone_rdata.specs.Table.{Named}
use Rattle.zone_rdata.specs.Words.{IsKind, IsMnemonic, IsWordAmong}
use Rattle.type_data.specs.Table.{registered_types}
use Rattle.type_data.specs.declared.mnemonics.Mnemonic.{Mnemonic}

abbrev pub row : ℕ → List ℕ → Named
row number mnemonic = record { number = number; mnemonic = mnemonic }

-- the algorithms of DNSSEC (RFC 4034 A.1)
abbrev pub algorithms : List Named
algorithms =
    row 0 (codes "DELETE")
    ∷ row 1 (codes "RSAMD5")
    ∷ row 2 (codes "DH")
    ∷ row 3 (codes "DSA")
    ∷ row 4 (codes "ECC")
    ∷ row 5 (codes "RSASHA1")
    ∷ row 6 (codes "DSA-NSEC3-SHA1")
    ∷ row 7 (codes "RSASHA1-NSEC3-SHA1")
    ∷ row 8 (codes "RSASHA256")
    ∷ row 10 (codes "RSASHA512")
    ∷ row 12 (codes "ECC-GOST")
    ∷ row 13 (codes "ECDSAP256SHA256")
    ∷ row 14 (codes "ECDSAP384SHA384")
    ∷ row 15 (codes "ED25519")
    ∷ row 16 (codes "ED448")
    ∷ row 17 (codes "SM2SM3")
    ∷ row 23 (codes "ECC-GOST12")
    ∷ row 252 (codes "INDIRECT")
    ∷ row 253 (codes "PRIVATEDNS")
    ∷ row 254 (codes "PRIVATEOID")
    ∷ []

-- further mnemonics of them: those that BIND has in place of the registered ones
abbrev pub further_algorithms : List Named
further_algorithms =
    row 6 (codes "NSEC3DSA")
    ∷ row 7 (codes "NSEC3RSASHA1")
    ∷ row 12 (codes "ECCGOST")
    ∷ []

-- the types of certificates (RFC 4398 2.1)
abbrev pub certificate_types : List Named
certificate_types =
    row 1 (codes "PKIX")
    ∷ row 2 (codes "SPKI")
    ∷ row 3 (codes "PGP")
    ∷ row 4 (codes "IPKIX")
    ∷ row 5 (codes "ISPKI")
    ∷ row 6 (codes "IPGP")
    ∷ row 7 (codes "ACPKIX")
    ∷ row 8 (codes "IACPKIX")
    ∷ row 253 (codes "URI")
    ∷ row 254 (codes "OID")
    ∷ []

-- the schemes of DSYNC (RFC 9859 2.1)
abbrev pub notify_schemes : List Named
notify_schemes = row 1 (codes "NOTIFY") ∷ []

abbrev pub name_of : Mnemonic → Named
name_of m = row m.0 m.1.now

-- the word of a type of which records can be: a mnemonic in any letter case, or `TYPE` and its
-- number (RFC 3597 5)
pub record IsTypeWord (word : List ℕ) (n : ℕ) : Type 0 where
  pub named : IsWordAmong registered_types (codes "TYPE") word n
  pub kind : IsKind n

-- the word is decimal digits that stand for the number, or its mnemonic in any letter case: no name
-- stands before the digits
abbrev pub IsNumberOrMnemonic : List Named → List ℕ → ℕ → Type 0
IsNumberOrMnemonic rows word n = IsWordAmong rows [] word n

-- the word is the number of an algorithm, or one of its mnemonics
abbrev pub IsAlgorithm : List ℕ → ℕ → Type 0
IsAlgorithm word n = IsNumberOrMnemonic algorithms word n ⊎ IsMnemonic further_algorithms word n
