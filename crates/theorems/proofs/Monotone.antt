-- A narrowing gives nothing new: what an action of the new ACL admits, the action that its hint names admitted; and a group that was safe stays so.
-- Two wrong products that this rules out: one whose narrowing lets an allowing flag be added, and one whose narrowing lets ktparams be loosened.
use Prim.Native.Nat.{ℕ, suc, ◌<◌}
use native.Mathlib.Omega.{arith}
use mathlib.Core.Path.{◌≡◌, refl, sym, ◌∙◌}
use mathlib.Core.Logic.{◌⊎◌, inl, inr}
use mathlib.Core.List.{List, [], ◌∷◌}
use mathlib.Core.Option.{Option, none, some}
use mathlib.Core.Bool.{true, not, ◌&&◌, ◌||◌, false≢true}
use lib.ListN.{get_elem?}
use lib.Dec.{eqb, leb, ltb}
use borrow.Author.Tests.{eqb-true, eq-eqb, leb-true, le-leb, ltb-true}
use Rattle.rules.specs.Basics.{Bytes, implies, Every, same, bit, within, present, both_same, matches}
use Rattle.rules.specs.Acl.{Parameters, BlobRule, ArchiveRule, BlobfileRule, Action, permissions, make_blob, make_archive, Group}
use Rattle.rules.specs.Request.{Token, WorkingBlob, RecoveryBlob, Blobfile, Wanted, operation, working_blob, recovery_blob, Hint}
use Rattle.rules.specs.Grant.{time_answers, tighter, meets, null_key, admits_direct, admits_token, admits_key, admits_under, admits_blob, admits_archive, admits_device, admits_template, admits_blobfile, admits, admits_use, admits_working, admits_recovery}
use Rattle.rules.specs.Narrow.{kept, kept_parameters, blob_no_wider, archive_no_wider, kept_devices, blobfile_no_wider, no_wider, no_wider_than, actions_no_wider, group_narrows, narrows_source, narrows_from}
use Rattle.rules.proofs.Laws.{never, and_left, and_right, and_both, or_cases, or_left, or_right, implied, implication, every_at, all_below_at, all_below_all, same_eq, eq_same, both_same_eq}
use Rattle.theorems.specs.Safety.{KnownUse, Confined, Safe}

pub within_at : (k a b i : ℕ) → i < k → within k a b ≡ true → bit i a ≡ true → bit i b ≡ true
unfolding within
within_at k a b i h e p = implied (bit i a) (bit i b) (all_below_at k (λ i. implies (bit i a) (bit i b)) i h e) p

within_trans : (k a b c : ℕ) → within k a b ≡ true → within k b c ≡ true → within k a c ≡ true
unfolding within
within_trans k a b c p q =
    all_below_all k (λ i. implies (bit i a) (bit i c))
    (λ i h. implication (bit i a) (bit i c) (λ r. within_at k b c i h q (within_at k a b i h p r)))

ruleset conj = (and_left, and_right, and_both)

time_trans : (p n o : ℕ) → time_answers p n ≡ true → time_answers n o ≡ true → time_answers p o ≡ true
time_trans p n o d e = pick (or_cases (eqb o 0) (ltb 0 n && leb n o) e) (or_cases (eqb n 0) (ltb 0 p && leb p n) d)
  where
    pick : (eqb o 0 ≡ true) ⊎ ((ltb 0 n && leb n o) ≡ true) → (eqb n 0 ≡ true) ⊎ ((ltb 0 p && leb p n) ≡ true) → time_answers p o ≡ true
    pick (inl x) y = or_left (eqb o 0) (ltb 0 p && leb p o) x
    pick (inr x) (inl y) =
        let l = ltb-true 0 n (and_left (ltb 0 n) (leb n o) x) in
        let z = eqb-true n 0 y in
        absurd (omega arith)
    pick (inr x) (inr y) =
        let a = leb-true p n (and_right (ltb 0 p) (leb p n) y) in
        let b = leb-true n o (and_right (ltb 0 n) (leb n o) x) in
        or_right (eqb o 0) (ltb 0 p && leb p o)
        (and_both (ltb 0 p) (leb p o) (and_left (ltb 0 p) (leb p n) y) (le-leb p o (omega arith)))

tighter_trans : (p n o : Parameters) → tighter p n ≡ true → tighter n o ≡ true → tighter p o ≡ true
tighter_trans p n o d e =
    let w : within 16 p.flags o.flags ≡ true = within_trans 16 p.flags n.flags o.flags (search conj) (search conj) in
    let a = leb-true o.needed n.needed (search conj) in
    let b = leb-true n.needed p.needed (search conj) in
    let f = leb-true p.total n.total (search conj) in
    let g = leb-true n.total o.total (search conj) in
    let x : leb o.needed p.needed ≡ true = le-leb o.needed p.needed (omega arith) in
    let y : leb p.total o.total ≡ true = le-leb p.total o.total (omega arith) in
    let t : time_answers p.time_limit o.time_limit ≡ true = time_trans p.time_limit n.time_limit o.time_limit (search conj) (search conj) in
    search conj

-- What a kept restriction lets through, the old one let through.
kept_matches : (n o : Option Bytes) (h : Bytes) → kept n o ≡ true → matches n h ≡ true → matches o h ≡ true
kept_matches n none h e p = refl
kept_matches none (some o) h e p = absurd (false≢true e)
kept_matches (some n) (some o) h e p = eq_same o h (sym (same_eq n o e) ∙ same_eq n h p)

kept_absent : (n o : Option Bytes) → kept n o ≡ true → not (present n) ≡ true → not (present o) ≡ true
kept_absent n none e p = refl
kept_absent none (some o) e p = e
kept_absent (some n) (some o) e p = p

kept_meets : (n o : Option Parameters) (p : Parameters) → kept_parameters n o ≡ true → meets n p ≡ true → meets o p ≡ true
kept_meets n none p e d = refl
kept_meets none (some o) p e d = absurd (false≢true e)
kept_meets (some n) (some o) p e d = tighter_trans p n o d e

kept_without : (n o : Option Parameters) → kept_parameters n o ≡ true → not (present n) ≡ true → not (present o) ≡ true
kept_without n none e p = refl
kept_without none (some o) e p = e
kept_without (some n) (some o) e p = p

module _ (n o : BlobRule) (e : blob_no_wider n o ≡ true) where
  key_wider : (km0 key : Bytes) → admits_key km0 n key ≡ true → admits_key km0 o key ≡ true
  key_wider km0 key d =
      let m : matches o.kmhash key ≡ true = kept_matches n.kmhash o.kmhash key (search conj) (search conj) in
      let k : (o.non_km0 || same key km0) ≡ true = pick (or_cases n.non_km0 (same key km0) (search conj)) in
      search conj
    where
      pick : (n.non_km0 ≡ true) ⊎ (same key km0 ≡ true) → (o.non_km0 || same key km0) ≡ true
      pick (inl x) = or_left o.non_km0 (same key km0) (implied n.non_km0 o.non_km0 (search conj) x)
      pick (inr x) = or_right o.non_km0 (same key km0) x

  direct_wider : (key : Bytes) → admits_direct n key ≡ true → admits_direct o key ≡ true
  direct_wider key d =
      let a : o.km_only ≡ true = implied n.km_only o.km_only (search conj) (search conj) in
      let b : not (present o.kthash) ≡ true = kept_absent n.kthash o.kthash (search conj) (search conj) in
      let c : not (present o.ktparams) ≡ true = kept_without n.ktparams o.ktparams (search conj) (search conj) in
      let f : not (same key null_key) ≡ true = search conj in
      search conj

  token_wider : (key : Bytes) (t : Token) → admits_token n key t ≡ true → admits_token o key t ≡ true
  token_wider key t d =
      let a : matches o.kthash t.hash ≡ true = kept_matches n.kthash o.kthash t.hash (search conj) (search conj) in
      let b : meets o.ktparams t.parameters ≡ true = kept_meets n.ktparams o.ktparams t.parameters (search conj) (search conj) in
      let c : implies (same key null_key) o.null_token ≡ true =
      implication (same key null_key) o.null_token
      (λ x. implied n.null_token o.null_token (search conj) (implied (same key null_key) n.null_token (search conj) x)) in
      search conj

  under_wider : (key : Bytes) (t : Option Token) → admits_under n key t ≡ true → admits_under o key t ≡ true
  under_wider key none d = direct_wider key d
  under_wider key (some t) d = token_wider key t d

  blob_wider : (km0 : Bytes) (w : WorkingBlob) → admits_blob km0 n w ≡ true → admits_blob km0 o w ≡ true
  blob_wider km0 w d =
      let a = key_wider km0 w.key (and_left (admits_key km0 n w.key) (admits_under n w.key w.token) d) in
      let b = under_wider w.key w.token (and_right (admits_key km0 n w.key) (admits_under n w.key w.token) d) in
      and_both (admits_key km0 o w.key) (admits_under o w.key w.token) a b

archive_wider : (n o : ArchiveRule) (w : RecoveryBlob) → archive_no_wider n o ≡ true → admits_archive n w ≡ true → admits_archive o w ≡ true
archive_wider n o w e d =
    let x = eqb-true n.mechanism o.mechanism (search conj) in
    let y = eqb-true n.mechanism w.mechanism (search conj) in
    let a = eq-eqb o.mechanism w.mechanism (omega arith) in
    let b = kept_matches n.kahash o.kahash w.key (search conj) (search conj) in
    search conj

-- A mask that is kept has the device, and a template that is kept is the one used.
device_wider : (n o : Option ℕ) (d : ℕ) → kept_devices n o ≡ true → admits_device n d ≡ true → admits_device o d ≡ true
device_wider n none d e p = refl
device_wider none (some o) d e p = absurd (false≢true e)
device_wider (some n) (some o) d e p = within_trans 32 d n o p e

template_wider : (n o used : Option Bytes) → kept n o ≡ true → admits_template n used ≡ true → admits_template o used ≡ true
template_wider n none used e p = refl
template_wider none (some o) used e p = absurd (false≢true e)
template_wider (some n) (some o) used e p = rw (same_eq n o e) at p

file_wider : (n o : Option BlobfileRule) (f : Option Blobfile) → blobfile_no_wider n o ≡ true → admits_blobfile n f ≡ true → admits_blobfile o f ≡ true
file_wider none none f e d = d
file_wider none (some o) f e d = absurd (false≢true e)
file_wider (some n) none f e d = absurd (false≢true e)
file_wider (some n) (some o) none e d = d
file_wider (some n) (some o) (some f) e d =
    let a : admits_device o.devices f.device ≡ true = device_wider n.devices o.devices f.device (search conj) (search conj) in
    let b : admits_template o.template f.template ≡ true = template_wider n.template o.template f.template (search conj) (search conj) in
    search conj

-- What an action admits, a wider one admits.
pub admits_wider : (km0 : Bytes) (w : Wanted) (n o : Action) → KnownUse w → no_wider n o ≡ true → admits km0 w n ≡ true → admits km0 w o ≡ true
unfolding admits admits_use admits_working admits_recovery no_wider
admits_wider km0 (operation p) (permissions n) (permissions o) k e d = within_at 16 n o p k e d
admits_wider km0 (operation p) (permissions n) (make_blob o h) k e d = e
admits_wider km0 (operation p) (permissions n) (make_archive o h) k e d = e
admits_wider km0 (operation p) (make_blob n g) o k e d = absurd (false≢true d)
admits_wider km0 (operation p) (make_archive n g) o k e d = absurd (false≢true d)
admits_wider km0 (working_blob w f) (permissions n) o k e d = absurd (false≢true d)
admits_wider km0 (working_blob w f) (make_blob n g) (permissions o) k e d = e
admits_wider km0 (working_blob w f) (make_blob n g) (make_blob o h) k e d =
    and_both (admits_blob km0 o w) (admits_blobfile h f)
    (blob_wider n o (and_left (blob_no_wider n o) (blobfile_no_wider g h) e) km0 w (and_left (admits_blob km0 n w) (admits_blobfile g f) d))
    (file_wider g h f (and_right (blob_no_wider n o) (blobfile_no_wider g h) e) (and_right (admits_blob km0 n w) (admits_blobfile g f) d))
admits_wider km0 (working_blob w f) (make_blob n g) (make_archive o h) k e d = e
admits_wider km0 (working_blob w f) (make_archive n g) o k e d = absurd (false≢true d)
admits_wider km0 (recovery_blob w f) (permissions n) o k e d = absurd (false≢true d)
admits_wider km0 (recovery_blob w f) (make_blob n g) o k e d = absurd (false≢true d)
admits_wider km0 (recovery_blob w f) (make_archive n g) (permissions o) k e d = e
admits_wider km0 (recovery_blob w f) (make_archive n g) (make_blob o h) k e d = e
admits_wider km0 (recovery_blob w f) (make_archive n g) (make_archive o h) k e d =
    and_both (admits_archive o w) (admits_blobfile h f)
    (archive_wider n o w (and_left (archive_no_wider n o) (blobfile_no_wider g h) e) (and_left (admits_archive n w) (admits_blobfile g f) d))
    (file_wider g h f (and_right (archive_no_wider n o) (blobfile_no_wider g h) e) (and_right (admits_archive n w) (admits_blobfile g f) d))

-- If all that the source's actions admit is good (of a KM0 and a wanted thing), so is all that the new group's actions admit.
module _ (Good : Bytes → Wanted → Type 0) where
  pub actions_confined : (new : List Action) (hints : List ℕ) (old : List Action) → actions_no_wider new hints old ≡ true → Every (Confined Good) old → Every (Confined Good) new
  unfolding actions_no_wider
  actions_confined [] hints old e h = tt
  actions_confined (a ∷ rest) [] old e h = absurd (false≢true e)
  actions_confined (a ∷ rest) (i ∷ is) old e h = (
    named (get_elem? old i) refl (and_left (no_wider_than a (get_elem? old i)) (actions_no_wider rest is old) e),
    actions_confined rest is old (and_right (no_wider_than a (get_elem? old i)) (actions_no_wider rest is old) e) h,
  )
    where
      named : (o : Option Action) → get_elem? old i ≡ o → no_wider_than a o ≡ true → Confined Good a
      named none q f = absurd (false≢true f)
      named (some o) q f = λ km0 w k d. every_at (Confined Good) old i o h q km0 w k (admits_wider km0 w a o k f d)

-- A narrowing keeps groups safe.
module _ (officer : Option Bytes) (Good : Bytes → Wanted → Type 0) where
  kept_officer : (n o : Option Bytes) → kept n o ≡ true → both_same officer o ≡ true → both_same officer n ≡ true
  kept_officer n none e d = let q = both_same_eq officer none d in absurd (never (cc))
  kept_officer none (some o) e d = absurd (false≢true e)
  kept_officer (some n) (some o) e d = rw (same_eq n o e) d

  group_safe : (n : Group) (hints : List ℕ) (o : Group) → group_narrows n hints o ≡ true → Safe officer Good o → Safe officer Good n
  group_safe n hints o e (inl d) = inl (kept_officer n.certifier o.certifier (search conj) d)
  group_safe n hints o e (inr h) = inr (actions_confined Good n.actions hints o.actions (search conj) h)

  pub narrowed_safe : (old : List Group) (low : ℕ) (new : List Group) (hints : List Hint) → narrows_from old low new hints ≡ true → Every (Safe officer Good) old → Every (Safe officer Good) new
  unfolding narrows_from
  narrowed_safe old low [] [] e h = tt
  narrowed_safe old low [] (i ∷ is) e h = tt
  narrowed_safe old low (n ∷ ns) [] e h = absurd (false≢true e)
  narrowed_safe old low (n ∷ ns) (i ∷ is) e h =
      (named (get_elem? old i.source) refl (search conj), narrowed_safe old (suc i.source) ns is (search conj) h)
    where
      named : (o : Option Group) → get_elem? old i.source ≡ o → narrows_source n i.actions o ≡ true → Safe officer Good n
      named none q f = absurd (false≢true f)
      named (some o) q f = group_safe n i.actions o f (every_at (Safe officer Good) old i.source o h q)
