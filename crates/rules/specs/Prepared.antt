-- A prepared ACL and runs on it: document 02, request k.
use Rattle.std.specs.Prelude.{ℕ, zero, suc, List, [], ◌∷◌, Bool, true, false, ◌&&◌, eqb}
use Rattle.std.proofs.Math.Option.{Option, none, some}
use Rattle.rules.specs.Sizes.{permissions_max, prepared_records}
use Rattle.rules.specs.Numbers.{other_form}
use Rattle.rules.specs.Basics.{Bytes, any, same, set_of, unless, first_fault, records}
use Rattle.rules.specs.Acl.{Action, permissions, make_blob, make_archive, Group, acl_of, acl_file_fault}
use Rattle.rules.specs.Request.{Certificate}
use Rattle.rules.specs.Ledger.{Ledger}
use Rattle.rules.specs.Grant.{admits_use}
use Rattle.rules.specs.Desk.{is_archive}
use Rattle.rules.specs.Runs.{ask_gate, run_fault, RunOutcome, run_end, asked_in_order}

-- "an action for it": a MakeBlob action, for working blobs
abbrev pub is_blob_action : Action → Bool
is_blob_action (permissions bits) = false
is_blob_action (make_blob b f) = true
is_blob_action (make_archive a f) = false

-- "for each permission exactly the groups with an action that sets its bit, for each blob kind exactly those with an action for it, and nothing more"
pub record Form : Type 0 where
  pub uses : List ℕ
  pub working : ℕ
  pub recovery : ℕ

-- the groups with an action that sets bit p
abbrev pub use_set : List Group → ℕ → ℕ
use_set gs p = set_of (λ g. any (admits_use p) g.actions) gs

-- the groups for each of n permissions from `from` on
unfoldable pub use_sets : List Group → ℕ → ℕ → List ℕ
use_sets gs from zero = []
use_sets gs from (suc n) = use_set gs from ∷ use_sets gs (suc from) n

-- the form made of an ACL
unfoldable pub form_of : List Group → Form
form_of gs =
    record {
      uses = use_sets gs 0 permissions_max;
      working = set_of (λ g. any is_blob_action g.actions) gs;
      recovery = set_of (λ g. any is_archive g.actions) gs;
    }

-- What is answered where a form is asked for: the form, or the ACL's own refusal.
pub data Preparation : Type 0 where
  prepared : Form → Preparation
  unprepared : ℕ → Preparation

-- the form of an ACL without fault
abbrev pub preparation_unless : Option ℕ → Form → Preparation
preparation_unless none f = prepared f
preparation_unless (some n) f = unprepared n

-- "Build a prepared form made once per ACL"
unfoldable pub prepare : Bytes → Preparation
prepare acl = preparation_unless (acl_file_fault acl) (form_of (acl_of acl))

-- two forms are the same
unfoldable pub same_form : Form → Form → Bool
same_form f h = same f.uses h.uses && eqb f.working h.working && eqb f.recovery h.recovery

-- "after the refusals of request j and before any request is judged, a prepared form that differs from the one made of the lent ACL is refused with 14"
unfoldable pub prepared_fault : Bytes → Bytes → List Certificate → Form → Bytes → Bytes → Option ℕ
prepared_fault km0 acl row f requests buffer =
    first_fault
    (run_fault prepared_records km0 acl row requests buffer
    ∷ unless (same_form f (form_of (acl_of acl))) other_form
    ∷ [])

-- "On every ledger and run not refused whole, answers and ledger equal those of asking it one by one in order.": "it" is the plain engine, the gate.
-- A run on a prepared ACL: ledger, KM0, ACL, row of certificates, form, request records, answer buffer.
unfoldable pub prepared_run : Ledger → Bytes → Bytes → List Certificate → Form → Bytes → Bytes → RunOutcome
prepared_run l km0 acl row f requests buffer =
    run_end l requests buffer (prepared_fault km0 acl row f requests buffer) (asked_in_order (ask_gate km0 acl row) l (records requests))
