-- What hints that show a narrowing are: one for each new group, with sources that rise strictly; and an ACL narrows to itself. Two wrong products that
-- this rules out: one that lets two new groups share one source, and one whose narrowing check always says 8.
use Prim.Native.Nat.{ℕ, zero, suc, ◌+◌, ◌-◌, ◌≤◌, ◌<◌}
use native.Mathlib.Omega.{arith}
use native.Mathlib.Nat.{add-zero, zero-add, suc-add, add-suc}
use mathlib.Core.Path.{◌≡◌, refl, ◌∙◌, ap, ap₂}
use mathlib.Core.List.{List, [], ◌∷◌, ◌++◌, map}
use mathlib.Core.Option.{Option, none, some}
use mathlib.Core.Bool.{Bool, true, ◌&&◌, ◌||◌, false≢true}
use lib.ListN.{length, get_elem?, replicate}
use lib.Dec.{eqb, leb, ltb}
use borrow.Author.Tests.{eq-eqb, leb-true, le-leb, lt-ltb}
use Rattle.rules.specs.Sizes.{actions_max, hint_records}
use Rattle.rules.specs.Numbers.{bad_length}
use Rattle.rules.specs.Basics.{Bytes, implies, any, all, all_zero, Every, bit, within, unless, first_fault, each_fault, file_fault}
use Rattle.rules.specs.Acl.{Parameters, BlobRule, ArchiveRule, BlobfileRule, Action, permissions, make_blob, make_archive, Limit, Group, acl_of, acl_file_fault}
use Rattle.rules.specs.Request.{Hint, hint_of, hints_of, hint_fault, hints_fault, hints_file_fault}
use Rattle.rules.specs.Grant.{tighter}
use Rattle.rules.specs.Narrow.{kept, kept_number, kept_parameters, blob_no_wider, archive_no_wider, kept_devices, blobfile_no_wider, no_wider, no_wider_than, actions_no_wider, answers, is_answered, group_narrows, narrows_source, narrows_from, narrows}
use Rattle.rules.proofs.Laws.{and_left, and_right, and_both, or_right, implication, all_below_all, same_refl, every_at, every_map, any_here, fault_none_every}
use Rattle.rules.specs.Fits.{GroupFits}
use Rattle.rules.proofs.AclSizes.{acl_fits}
use Rattle.rules.proofs.Joined.{Whole, joined_records, joined_fits}
use Rattle.rules.proofs.Written.{hint_whole, hint_read, hint_laid_out_lem}
use Rattle.theorems.proofs.Lists.{every_all, every_fault_none}
use Rattle.theorems.specs.Narrowings.{Rising, places, own_hint_records, own_hints}

ruleset conj = (and_left, and_right, and_both)

module _ (old : List Group) where
  shown_from : (low : ℕ) (new : List Group) (hints : List Hint) → narrows_from old low new hints ≡ true → (length hints ≡ length new) × Rising low hints
  unfolding narrows_from
  shown_from low [] [] e = (refl, tt)
  shown_from low [] (h ∷ hs) e = absurd (false≢true e)
  shown_from low (n ∷ ns) [] e = absurd (false≢true e)
  shown_from low (n ∷ ns) (h ∷ hs) e =
      let r = shown_from (suc h.source) ns hs (search conj) in
      (ap suc r.0, (leb-true low h.source (search conj), r.1))

-- A narrowing has "one hint per new group. Sources rise strictly."
pub narrows_shown : (old new : List Group) (hints : List Hint) → narrows old new hints ≡ true → (length hints ≡ length new) × Rising 0 hints
narrows_shown old new hints e = shown_from old 0 new hints e

-- so no two new groups share a source
pub sources_differ : (low : ℕ) (h : Hint) (hs : List Hint) → Rising low (h ∷ hs) → Every (λ k. h.source < k.source) hs
sources_differ low h hs r = later (suc h.source) hs r.1 (omega arith)
  where
    later : (low : ℕ) (ks : List Hint) → Rising low ks → h.source < low → Every (λ k. h.source < k.source) ks
    later low [] t b = tt
    later low (k ∷ ks) t b = (omega (arith, t.0), later (suc k.source) ks t.1 (omega (arith, t.0)))

-- What is kept is no wider.
pub kept_self : (o : Option Bytes) → kept o o ≡ true
kept_self none = refl
kept_self (some h) = same_refl h

pub kept_number_self : (o : Option ℕ) → kept_number o o ≡ true
kept_number_self none = refl
kept_number_self (some n) = eq-eqb n n refl

within_self : (k a : ℕ) → within k a a ≡ true
unfolding within
within_self k a = all_below_all k (λ i. implies (bit i a) (bit i a)) (λ i h. implication (bit i a) (bit i a) (λ e. e))

time_self : (t : ℕ) → (eqb t 0 || ltb 0 t && leb t t) ≡ true
time_self zero = refl
time_self (suc t) = or_right (eqb (suc t) 0) (ltb 0 (suc t) && leb (suc t) (suc t)) (and_both (ltb 0 (suc t)) (leb (suc t) (suc t)) (lt-ltb 0 (suc t) (omega arith)) (le-leb (suc t) (suc t) (omega arith)))

pub tighter_self : (p : Parameters) → tighter p p ≡ true
tighter_self p =
    let a = within_self 16 p.flags in
    let b = le-leb p.needed p.needed (omega arith) in
    let c = le-leb p.total p.total (omega arith) in
    let d = time_self p.time_limit in
    search conj

kept_parameters_self : (o : Option Parameters) → kept_parameters o o ≡ true
kept_parameters_self none = refl
kept_parameters_self (some p) = tighter_self p

blob_self : (b : BlobRule) → blob_no_wider b b ≡ true
blob_self b =
    let x = implication b.km_only b.km_only (λ e. e) in
    let y = implication b.non_km0 b.non_km0 (λ e. e) in
    let z = implication b.null_token b.null_token (λ e. e) in
    let u = kept_self b.kmhash in
    let v = kept_self b.kthash in
    let w = kept_parameters_self b.ktparams in
    search conj

archive_self : (a : ArchiveRule) → archive_no_wider a a ≡ true
archive_self a =
    let x = eq-eqb a.mechanism a.mechanism refl in
    let y = kept_self a.kahash in
    search conj

kept_devices_self : (o : Option ℕ) → kept_devices o o ≡ true
kept_devices_self none = refl
kept_devices_self (some n) = within_self 32 n

file_self : (o : Option BlobfileRule) → blobfile_no_wider o o ≡ true
file_self none = refl
file_self (some f) =
    let x = kept_devices_self f.devices in
    let y = kept_self f.template in
    search conj

pub action_self : (a : Action) → no_wider a a ≡ true
unfolding no_wider
action_self (permissions n) = within_self 16 n
action_self (make_blob b f) = and_both (blob_no_wider b b) (blobfile_no_wider f f) (blob_self b) (file_self f)
action_self (make_archive a f) = and_both (archive_no_wider a a) (blobfile_no_wider f f) (archive_self a) (file_self f)

pub limit_self : (m : Limit) → answers m m ≡ true
unfolding answers
limit_self m =
    let x = eq-eqb m.sort m.sort refl in
    let y = eq-eqb m.counter m.counter refl in
    let z = le-leb m.maximum m.maximum (omega arith) in
    search conj

-- a list stands in another from a place on
abbrev pub StandsAt : {A : Type 0} → List A → ℕ → List A → Type 0
StandsAt {A} whole place xs = (j : ℕ) (x : A) → get_elem? xs j ≡ some x → get_elem? whole (place + j) ≡ some x

module _ {A : Type 0} (whole : List A) where
  pub stands_here : (place : ℕ) (x : A) (xs : List A) → StandsAt whole place (x ∷ xs) → get_elem? whole place ≡ some x
  stands_here place x xs f = rw add-zero at (f 0 x refl)

  pub stands_next : (place : ℕ) (x : A) (xs : List A) → StandsAt whole place (x ∷ xs) → StandsAt whole (suc place) xs
  stands_next place x xs f j y e = rw (suc-add, ← (add-suc place j)) (f (suc j) y e)

  every_index : (P : A → Type 0) (xs : List A) → ((i : ℕ) (x : A) → get_elem? xs i ≡ some x → P x) → Every P xs
  every_index P [] f = tt
  every_index P (x ∷ xs) f = (f 0 x refl, every_index P xs (λ i y e. f (suc i) y e))

pub all_zero_lem : (n : ℕ) → all_zero (replicate n 0) ≡ true
unfolding all_zero
all_zero_lem zero = refl
all_zero_lem (suc n) = all_zero_lem n

own_actions : (old : List Action) (place pad : ℕ) (xs : List Action) → StandsAt old place xs → actions_no_wider xs (places place xs ++ replicate pad 0) old ≡ true
unfolding actions_no_wider places
own_actions old place pad [] f = all_zero_lem pad
own_actions old place pad (a ∷ rest) f =
    let e : no_wider_than a (get_elem? old place) ≡ true = rw (stands_here old place a rest f) (action_self a) in
    and_both (no_wider_than a (get_elem? old place)) (actions_no_wider rest (places (suc place) rest ++ replicate pad 0) old) e
    (own_actions old (suc place) pad rest (stands_next old place a rest f))

pub limits_self : (ms : List Limit) → all (is_answered ms) ms ≡ true
unfolding is_answered
limits_self ms =
    every_all (is_answered ms) ms
    (every_index ms (λ m. is_answered ms m ≡ true) ms
    (λ i m e. every_at (λ x. answers m x ≡ true → any (answers m) ms ≡ true) ms i m (any_here (answers m) ms) e (limit_self m)))

-- the places of a group's own actions, as a hint has them
abbrev padded : List Action → List ℕ
padded xs = places 0 xs ++ replicate (actions_max - length (places 0 xs)) 0

group_self : (g : Group) → group_narrows g (padded g.actions) g ≡ true
group_self g =
    let a = kept_self g.certifier in
    let b = kept_number_self g.mechanism in
    let c = limits_self g.limits in
    let d : actions_no_wider g.actions (padded g.actions) g.actions ≡ true =
    own_actions g.actions 0 (actions_max - length (places 0 g.actions)) g.actions (λ j x e. rw zero-add e) in
    search conj

places_length : {A : Type 0} (place : ℕ) (xs : List A) → length (places place xs) ≡ length xs
unfolding places
places_length place [] = refl
places_length place (x ∷ xs) = ap suc (places_length (suc place) xs)

own_length : (place : ℕ) (gs : List Group) → length (own_hint_records place gs) ≡ length gs
unfolding own_hint_records
own_length place [] = refl
own_length place (g ∷ gs) = ap suc (own_length (suc place) gs)

-- a group's actions are as many as a hint can name
few_actions : (g : Group) → GroupFits g → length (places 0 g.actions) ≤ actions_max
few_actions g f = let a = f.actions in let b = places_length 0 g.actions in omega arith

own_laid_out : (place : ℕ) (gs : List Group) → Every GroupFits gs → Every (λ h. Whole h × (hint_fault h ≡ none)) (own_hint_records place gs)
unfolding own_hint_records hint_fault
own_laid_out place [] f = tt
own_laid_out place (g ∷ gs) f =
    let few = few_actions g f.0 in
    let ps = places 0 g.actions in
    ((hint_whole place ps few, rw (hint_laid_out_lem place ps few)), own_laid_out (suc place) gs f.1)

-- what these records say
unfoldable own_list : ℕ → List Group → List Hint
own_list place [] = []
own_list place (g ∷ gs) = record { source = place; actions = padded g.actions } ∷ own_list (suc place) gs

own_read : (place : ℕ) (gs : List Group) → Every GroupFits gs → map hint_of (own_hint_records place gs) ≡ own_list place gs
unfolding own_hint_records own_list
own_read place [] f = refl
own_read place (g ∷ gs) f = ap₂ ◌∷◌ (hint_read place (places 0 g.actions) (few_actions g f.0)) (own_read (suc place) gs f.1)

own_from : (old : List Group) (place : ℕ) (gs : List Group) → StandsAt old place gs → narrows_from old place gs (own_list place gs) ≡ true
unfolding narrows_from own_list
own_from old place [] f = refl
own_from old place (g ∷ gs) f =
    let a = le-leb place place (omega arith) in
    let b : narrows_source g (padded g.actions) (get_elem? old place) ≡ true = rw (stands_here old place g gs f) (group_self g) in
    let c = own_from old (suc place) gs (stands_next old place g gs f) in
    search conj

both_none : (t : Bool) (u : Option ℕ) → t ≡ true → u ≡ none → first_fault (unless t bad_length ∷ u ∷ []) ≡ none
unfolding first_fault
both_none t u p q = rw (p, q)

-- Every ACL narrows to itself, by the hints file that names each group and action by its own place.
pub narrows_itself : (acl : Bytes) → acl_file_fault acl ≡ none
    → (hints_file_fault (own_hints (acl_of acl)) ≡ none) × (narrows (acl_of acl) (acl_of acl) (hints_of (own_hints (acl_of acl))) ≡ true)
unfolding file_fault hints_fault each_fault
narrows_itself acl e =
    let fits = acl_fits acl (fault_none_every _ e).1.0 in
    let good = own_laid_out 0 (acl_of acl) fits.each in
    let whole = every_map (λ h. Whole h × (hint_fault h ≡ none)) Whole (own_hint_records 0 (acl_of acl)) (λ h k. k.0) good in
    let read = joined_records (own_hint_records 0 (acl_of acl)) whole in (
      both_none _ _ (joined_fits hint_records (own_hint_records 0 (acl_of acl)) whole (omega (arith, fits.groups, own_length 0 (acl_of acl))))
          (ap (λ (rs : List Bytes). first_fault (map hint_fault rs)) read
          ∙ every_fault_none hint_fault (own_hint_records 0 (acl_of acl)) (every_map (λ h. Whole h × (hint_fault h ≡ none)) (λ h. hint_fault h ≡ none) (own_hint_records 0 (acl_of acl)) (λ h k. k.1) good)),
      ap (λ (rs : List Bytes). narrows (acl_of acl) (acl_of acl) (map hint_of rs)) read
          ∙ ap (narrows (acl_of acl) (acl_of acl)) (own_read 0 (acl_of acl) fits.each)
          ∙ own_from (acl_of acl) 0 (acl_of acl) (λ j g e. rw zero-add e),
    )
