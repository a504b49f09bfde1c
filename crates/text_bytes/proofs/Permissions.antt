-- The names of the permissions, the fields and the signatures in rows, as the code has them.
use Prim.Native.Nat.{◌^◌, ◌≤◌}
use native.Mathlib.Omega.{arith}
use mathlib.Core.Path.{◌≡◌, refl}
use mathlib.Core.List.{map}
use lib.ListN.{length}
use Rattle.rules.specs.Basics.{Bytes, ascii}
use Rattle.text_rules.specs.Words.{spaced, permission_names}
use Rattle.text_rules.specs.OtherWords.{field_names, signature_names}
use Rattle.text_bytes.specs.Names.{words_of}

abbrev pub permission_row : Bytes
permission_row = ascii " DuplicateHandle GetAppData ReduceACL GetACL Sign Verify SignModuleCert UseAsCertificate Encrypt Decrypt ExportAsPlain SetAppData ExpandACL UseAsBlobKey UseAsKM UseAsLoaderKey"

pub row_names : words_of permission_row ≡ map spaced permission_names
unfolding words_of ascii
row_names = refl

pub row_fits : 2 ^ length (words_of permission_row) ≤ 65536
unfolding words_of ascii
row_fits = omega arith

-- the names of the fields and of the signatures
abbrev pub field_row : Bytes
field_row = ascii " warrantESN stateESN KML HKNSO knsopub hkm hkre kcmsg pubkeydata csr hkra hkmc hkfips modulekey"

pub field_names_lem : words_of field_row ≡ map spaced field_names
unfolding words_of ascii
field_names_lem = refl

abbrev pub signature_row : Bytes
signature_row = ascii " warrant modulestate CertKMaKMCbKNSO CertKMaKMCaKFIPSbKNSO CertKREaKRAbKNSO keygeneration"

pub signature_names_lem : words_of signature_row ≡ map spaced signature_names
unfolding words_of ascii
signature_names_lem = refl
