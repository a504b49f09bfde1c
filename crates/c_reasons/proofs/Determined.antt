-- The numbers of the C surface lose nothing: structs that read the same are the same, so that a contract determines what the host gets.
use mathlib.Core.Path.{◌≡◌, ap}
use Rattle.c_reasons.specs.Reasons.{FileInNumbers, host_file_as, CallInNumbers, host_call_as}
use Rattle.c_reasons.specs.declared.HostFilePlace.{HostFilePlace}
use Rattle.c_reasons.specs.declared.HostCallPlace.{HostCallPlace}

pub file_determined : (p q : HostFilePlace) → host_file_as p ≡ host_file_as q → p ≡ q
file_determined p q e = ap (λ (n : FileInNumbers). record { refusal = n.refusal; part = n.part; index = n.index }) e

pub call_determined : (p q : HostCallPlace) → host_call_as p ≡ host_call_as q → p ≡ q
call_determined p q e =
    ap (λ (n : CallInNumbers). record { refusal = n.refusal; input = n.input; part = n.part; index = n.index; group = n.group; reason = n.reason; item = n.item }) e
