use Rattle.rules.specs.Basics.{ascii}
use Rattle.subject.proofs.keys_text.Goals as goal

pub returns-in-Plain : goal.returns-in-Plain
unfolding ascii
returns-in-Plain c = rw c.in-Plain.is

pub returns-in-TypeRijndael : goal.returns-in-TypeRijndael
unfolding ascii
returns-in-TypeRijndael c = rw c.in-TypeRijndael.is

pub returns-in-Dlf3072Rijndael : goal.returns-in-Dlf3072Rijndael
unfolding ascii
returns-in-Dlf3072Rijndael c = rw c.in-Dlf3072Rijndael.is

pub returns-in-Dlf3072Aes : goal.returns-in-Dlf3072Aes
unfolding ascii
returns-in-Dlf3072Aes c = rw c.in-Dlf3072Aes.is

pub returns-in-Ecp521Aes : goal.returns-in-Ecp521Aes
unfolding ascii
returns-in-Ecp521Aes c = rw c.in-Ecp521Aes.is
