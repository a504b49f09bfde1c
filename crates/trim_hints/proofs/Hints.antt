-- The hints: a group's hint written action by action, and the loop over the groups.
use Prim.Native.Nat.{ℕ, suc, ◌+◌, ◌-◌, ◌≤◌, ◌<◌}
use native.Mathlib.Omega.{arith}
use mathlib.Core.Path.{◌≡◌, refl, sym, ◌∙◌, ap}
use mathlib.Core.List.{List, [], ◌∷◌, ◌++◌, append_assoc, append-nil}
use mathlib.Core.Option.{none}
use mathlib.Core.Bool.{Bool, true, false, not}
use borrow.Author.Tests.{eq-eqb, ne_eqb, ltb-true, not-true, not-false}
use lib.ListN.{length, take, drop, get_or, set, replicate, length-append, length-drop}
use lib.Seq.{set_at, append_snoc, take_all}
use lib.Dec.{eqb}
use Rattle.rules.specs.Sizes.{record_bytes, groups_max, actions_max}
use Rattle.std.specs.Prelude.{Option, is_some, if◌then◌else◌}
use Rattle.rules.specs.Basics.{Bytes, kind, scan, records, joined}
use Rattle.rules.specs.Acl.{AclState, acl_start, has_room_under, after_record, acl_record_fault, acl_fault_under, acl_fault}
use Rattle.rules.specs.Trim.{is_checked, stays, kept_indices, hints_from, trim_hints}
use Rattle.rules.specs.Written.{hint_bytes}
use Rattle.rules.proofs.Laws.{or_next_first, or_next_next}
use Rattle.rules.proofs.Rows.{lent_rest_lem}
use Rattle.rules.proofs.Places.{acl_from, record_has_room, same_count}
use Rattle.rules.proofs.Written.{hint_whole}
use Rattle.rules.proofs.Trim.{fresh_group, group_places}
use Rattle.record_fields.proofs.Walks.{left_at, left_none}
use Rattle.trim_records.specs.declared.Kept.{Kept}
use Rattle.trim_records.specs.Fates.{on_action}
use Rattle.trim_records.proofs.Laws.{action_stays}
use Rattle.subject.specs.Writing.{overwritten}
use Rattle.trim_hints.specs.declared.Hint.{Hint}
use Rattle.trim_hints.specs.Hinting.{begun_hint, named, unnamed, action_hinted, record_hinted, places_of, SoundFrom}
use Rattle.trim_hints.proofs.Written.{Writing, writing_start, writing_room, writing_next, writing_done}

-- Reading on: the record at the front has no fault, and the rest has none.
module _ (s : AclState) (r : Bytes) (rs : List Bytes) (sound : acl_from s (r ∷ rs) ≡ none) where
  sound_here : acl_record_fault s r ≡ none
  unfolding scan
  sound_here = or_next_first (acl_record_fault s r) _ sound

  sound_rest : acl_from (after_record s r) rs ≡ none
  unfolding scan
  sound_rest = or_next_next (acl_record_fault s r) _ sound

-- A group's record begins one.
group_more : (s : AclState) (r : Bytes) → eqb (kind r) 1 ≡ true → (after_record s r).groups ≡ s.groups + 1
unfolding after_record
group_more s r e = rw e

-- there is room for one more group
pub sound_room : (r : Bytes) (rs : List Bytes) (groups : ℕ) → SoundFrom (r ∷ rs) groups → kind r ≡ 1 → groups < groups_max
unfolding has_room_under
sound_room r rs groups s e =
    let b = s.begun in
    let l = ltb-true s.place.groups groups_max (rw (eq-eqb (kind r) 1 e) at (record_has_room s.place r (sound_here s.place r rs s.sound))) in
    omega arith

-- the k-th record
module _ (xs : List Bytes) (k groups : ℕ) (h : k < length xs) (s : SoundFrom (drop k xs) groups) where
  pub sound_at : SoundFrom (get_or xs k [] ∷ drop (k + 1) xs) groups
  sound_at = rw (left_at xs k h) at s

  -- the same, by the rest of the records as the code lends it
  pub sound_lent : SoundFrom (get_or xs k [] ∷ take (length xs - (k + 1)) (drop (k + 1) xs)) groups
  sound_lent = rw (take_all (length xs - (k + 1)) (drop (k + 1) xs) (omega (arith, length-drop (k + 1) xs))) sound_at

  pub sound_group : kind (get_or xs k []) ≡ 1 → SoundFrom (drop (k + 1) xs) (groups + 1)
  sound_group e =
      let t = sound_at in
      record {
        place = after_record t.place (get_or xs k []);
        sound = sound_rest t.place (get_or xs k []) (drop (k + 1) xs) t.sound;
        begun = group_more t.place (get_or xs k []) (eq-eqb (kind (get_or xs k [])) 1 e) ∙ ap (λ (n : ℕ). n + 1) t.begun;
      }

  pub sound_other : (kind (get_or xs k []) ≡ 1 → ⊥) → SoundFrom (drop (k + 1) xs) groups
  sound_other n =
      let t = sound_at in
      record {
        place = after_record t.place (get_or xs k []);
        sound = sound_rest t.place (get_or xs k []) (drop (k + 1) xs) t.sound;
        begun = same_count t.place (get_or xs k []) (ne_eqb (kind (get_or xs k [])) 1 n) ∙ t.begun;
      }

-- A hint after an action.
pub hinted_not : (h : Hint) (kept : Bool) → not kept ≡ true → unnamed h ≡ action_hinted h kept
unfolding action_hinted
hinted_not h kept e = rw (not-true kept e)

pub hinted : (h : Hint) (kept : Bool) → not kept ≡ false → named h ≡ action_hinted h kept
unfolding action_hinted
hinted h kept e = rw (not-false kept e)

-- one more index in a hint
name_set : (source : ℕ) (places : List ℕ) (p : ℕ) → length places < actions_max → set (hint_bytes source places) (8 + length places) p ≡ hint_bytes source (places ++ (p ∷ []))
unfolding hint_bytes
name_set source places p h =
    let n : ℕ = length places in
    let more : List ℕ = replicate (actions_max - suc n) 0 in
    let front : List ℕ → Bytes = λ l. 13 ∷ 0 ∷ 0 ∷ 0 ∷ source ∷ 0 ∷ 0 ∷ 0 ∷ l in
    let eight : 8 + n ≡ suc (suc (suc (suc (suc (suc (suc (suc n))))))) = omega arith in
    let one : actions_max - n ≡ suc (actions_max - suc n) = omega arith in
    let len : length (places ++ (p ∷ [])) ≡ suc n = length-append places (p ∷ []) ∙ omega arith in
    ap (λ (k : ℕ). set (front ((places ++ replicate k 0) ++ replicate 48 0)) (8 + n) p) one
    ∙ ap (λ (k : ℕ). set (front ((places ++ (0 ∷ more)) ++ replicate 48 0)) k p) eight
    ∙ ap (λ (l : List ℕ). front (set l n p)) (append_assoc places (0 ∷ more) (replicate 48 0))
    ∙ ap front (set_at places 0 (more ++ replicate 48 0) p n refl)
    ∙ sym (ap (λ (l : List ℕ). front l) (ap (λ (k : ℕ). ((places ++ (p ∷ [])) ++ replicate (actions_max - k) 0) ++ replicate 48 0) len ∙ append_assoc (places ++ (p ∷ [])) more (replicate 48 0) ∙ append_snoc places p (more ++ replicate 48 0)))

-- a hint after an action, by what the code found
pub action_recorded : (h x : Hint) (fate f : Option Kept) (kept : Bool) (r : Bytes) → (kind r ≡ 2 → ⊥) → (kind r ≡ 15 → ⊥) → f ≡ fate → kept ≡ is_some f → x ≡ action_hinted h kept → x ≡ record_hinted h fate r
unfolding record_hinted
action_recorded h x fate f kept r m n e k d = rw (ne_eqb (kind r) 2 m, ne_eqb (kind r) 15 n, ← e, ← k) d

-- The indices to name, by the record at the front, which begins no group.
module _ (b : List Bytes) (checked : Bool) (place : ℕ) (r : Bytes) (rs : List Bytes) (p : eqb (kind r) 1 ≡ false) where
  places_limit : eqb (kind r) 2 ≡ true → kept_indices b checked place (r ∷ rs) ≡ kept_indices b checked place rs
  unfolding kept_indices
  places_limit q = rw (p, q)

  module _ (q : eqb (kind r) 2 ≡ false) where
    places_file : eqb (kind r) 15 ≡ true → kept_indices b checked place (r ∷ rs) ≡ kept_indices b checked place rs
    unfolding kept_indices
    places_file u = rw (p, q, u)

    places_stays : eqb (kind r) 15 ≡ false → stays b checked r ≡ true → kept_indices b checked place (r ∷ rs) ≡ place ∷ kept_indices b checked (place + 1) rs
    unfolding kept_indices
    places_stays u t = rw (p, q, u, t)

    places_goes : eqb (kind r) 15 ≡ false → stays b checked r ≡ false → kept_indices b checked place (r ∷ rs) ≡ kept_indices b checked (place + 1) rs
    unfolding kept_indices
    places_goes u t = rw (p, q, u, t)

-- A group's hint: the indices named, and those left to name.
pub record Hinting (b : List Bytes) (checked : Bool) (source : ℕ) (rs : List Bytes) (total : List ℕ) (h : Hint) : Type 0 where
  pub place : AclState
  pub sound : acl_from place rs ≡ none
  pub begun : place.actions ≡ h.place
  pub done : List ℕ
  pub bytes : h.bytes ≡ hint_bytes source done
  pub count : h.count ≡ length done
  pub rest : done ++ kept_indices b checked h.place rs ≡ total

-- the same with its bounds
abbrev pub Hinted : List Bytes → Bool → ℕ → List Bytes → List ℕ → Hint → Type 0
Hinted b checked source rs total h = (h.count ≤ h.place) × ((h.place ≤ actions_max) × Hinting b checked source rs total h)

pub hint_first : (b : List Bytes) (r : Bytes) (rs : List Bytes) (checked : Bool) (source : ℕ) (h : Hint) → SoundFrom (r ∷ rs) source → kind r ≡ 1
    → checked ≡ is_checked b r → h ≡ begun_hint source → Hinted b checked source rs (places_of b r rs) h
unfolding begun_hint places_of
hint_first b r rs checked source h s e f d =
    rw (d, f) (
      omega arith,
      (
        omega arith,
        record {
          place = after_record s.place r;
          sound = sound_rest s.place r rs s.sound;
          begun = fresh_group s.place r (eq-eqb (kind r) 1 e);
          done = [];
          bytes = refl;
          count = refl;
          rest = refl;
        },
      ),
    )

-- One record more, which begins no group.
module _ (b : List Bytes) (checked : Bool) (source : ℕ) (here : Bytes) (rs : List Bytes) (total : List ℕ) (h : Hint)
    (few : h.count ≤ h.place) (most : h.place ≤ actions_max) (inv : Hinting b checked source (here ∷ rs) total h) (other : eqb (kind here) 1 ≡ false) where
  abbrev Next : Hint → Type 0
  Next x = Hinted b checked source rs total x

  -- a limit, or a record of kind 15
  pass : (after_record inv.place here).actions ≡ inv.place.actions → kept_indices b checked h.place (here ∷ rs) ≡ kept_indices b checked h.place rs → Next h
  pass s p = (
    few,
    (
      most,
      record {
        place = after_record inv.place here;
        sound = sound_rest inv.place here rs inv.sound;
        begun = s ∙ inv.begun;
        done = inv.done;
        bytes = inv.bytes;
        count = inv.count;
        rest = ap (λ (z : List ℕ). inv.done ++ z) (sym p) ∙ inv.rest;
      },
    ),
  )

  limit : eqb (kind here) 2 ≡ true → Next h
  unfolding after_record
  limit e = pass (rw (other, e)) (places_limit b checked h.place here rs other e)

  file : eqb (kind here) 2 ≡ false → eqb (kind here) 15 ≡ true → Next h
  unfolding after_record
  file e d = pass (rw (other, e, d)) (places_file b checked h.place here rs other e d)

  -- an action
  module _ (e : eqb (kind here) 2 ≡ false) (d : eqb (kind here) 15 ≡ false) where
    more : (after_record inv.place here).actions ≡ inv.place.actions + 1
    unfolding after_record
    more = rw (other, e, d)

    below : h.place < actions_max
    unfolding has_room_under
    below =
        let s = inv.begun in
        let l = ltb-true inv.place.actions actions_max (rw (other, e, d) at (record_has_room inv.place here (sound_here inv.place here rs inv.sound))) in
        omega arith

    goes : stays b checked here ≡ false → Next (unnamed h)
    goes t =
        let l = below in (
          omega arith,
          (
            omega arith,
            record {
              place = after_record inv.place here;
              sound = sound_rest inv.place here rs inv.sound;
              begun = more ∙ ap (λ (n : ℕ). n + 1) inv.begun;
              done = inv.done;
              bytes = inv.bytes;
              count = inv.count;
              rest = ap (λ (z : List ℕ). inv.done ++ z) (sym (places_goes b checked h.place here rs other e d t)) ∙ inv.rest;
            },
          ),
        )

    remains : stays b checked here ≡ true → Next (named h)
    remains t =
        let l = below in
        let n = inv.count in
        let p : ℕ = h.place in (
          omega arith,
          (
            omega arith,
            record {
              place = after_record inv.place here;
              sound = sound_rest inv.place here rs inv.sound;
              begun = more ∙ ap (λ (n : ℕ). n + 1) inv.begun;
              done = inv.done ++ (p ∷ []);
              bytes = ap (λ (k : ℕ). set h.bytes (8 + k) p) n ∙ ap (λ (z : Bytes). set z (8 + length inv.done) p) inv.bytes ∙ name_set source inv.done p (omega arith);
              count = ap (λ (k : ℕ). k + 1) n ∙ sym (length-append inv.done (p ∷ []));
              rest =
                  append_snoc inv.done p (kept_indices b checked (p + 1) rs)
                  ∙ ap (λ (z : List ℕ). inv.done ++ z) (sym (places_stays b checked p here rs other e d t))
                  ∙ inv.rest;
            },
          ),
        )

    action : (t : Bool) → stays b checked here ≡ t → Next (if t then named h else unnamed h)
    action true q = remains q
    action false q = goes q

  record_next : (x : Hint) → x ≡ record_hinted h (on_action b checked here) here → Next x
  unfolding record_hinted action_hinted
  record_next x q = rw q (pick (eqb (kind here) 2) refl (eqb (kind here) 15) refl)
    where
      fate : Option Kept
      fate = on_action b checked here

      pick : (y : Bool) → eqb (kind here) 2 ≡ y → (z : Bool) → eqb (kind here) 15 ≡ z → Next (if y then h else if z then h else if is_some fate then named h else unnamed h)
      pick true e z d = limit e
      pick false e true d = file e d
      pick false e false d = action e d (is_some fate) (action_stays b checked here fate refl)

-- The turns of the loop over the records that follow a group's first one: the k-th.
module _ (b : List Bytes) (checked : Bool) (source : ℕ) (xs : List Bytes) (k : ℕ) (total : List ℕ) (h : Hint) (inv : Hinted b checked source (drop k xs) total h) where
  pub hint_next : k < length xs → (kind (get_or xs k []) ≡ 1 → ⊥) → (x : Hint) → x ≡ record_hinted h (on_action b checked (get_or xs k [])) (get_or xs k []) → Hinted b checked source (drop (k + 1) xs) total x
  hint_next l n x q =
      let i = rw (left_at xs k l) at inv in
      record_next b checked source (get_or xs k []) (drop (k + 1) xs) total h i.0 i.1.0 i.1.1 (ne_eqb (kind (get_or xs k [])) 1 n) x q

  -- the hint is whole where the next group begins, or the ACL ends
  hint_ends : kept_indices b checked h.place (drop k xs) ≡ [] → h.bytes ≡ hint_bytes source total
  hint_ends e =
      let i = inv.1.1 in
      i.bytes ∙ ap (hint_bytes source) (sym (append-nil i.done) ∙ ap (λ (z : List ℕ). i.done ++ z) (sym e) ∙ i.rest)

  pub hint_group : k < length xs → kind (get_or xs k []) ≡ 1 → h.bytes ≡ hint_bytes source total
  unfolding kept_indices
  hint_group l e = hint_ends (ap (kept_indices b checked h.place) (left_at xs k l) ∙ rw (eq-eqb (kind (get_or xs k [])) 1 e))

  pub hint_end : length xs ≤ k → h.bytes ≡ hint_bytes source total
  unfolding kept_indices
  hint_end l = hint_ends (ap (kept_indices b checked h.place) (left_none xs k l))

-- The loop over the groups.
pub sound_first : (acl : Bytes) (xs : List Bytes) → xs ≡ records acl → acl_fault (records acl) ≡ none → SoundFrom (drop 0 xs) 0
unfolding acl_fault_under
sound_first acl xs w e = rw w (record { place = acl_start; sound = e; begun = refl })

pub hints_first : (b : List Bytes) (acl old : Bytes) (xs : List Bytes) → xs ≡ records acl → Writing (trim_hints b acl) old old (joined (hints_from b 0 (drop 0 xs))) 0
unfolding trim_hints
hints_first b acl old xs w = rw w (writing_start (trim_hints b acl) old)

module _ (b : List Bytes) (result old new : Bytes) (xs : List Bytes) (k groups to : ℕ) (inv : Writing result old new (joined (hints_from b groups (drop k xs))) to) where
  abbrev group : Bytes
  group = get_or xs k []

  abbrev after : List Bytes
  after = drop (k + 1) xs

  pub hints_skip : k < length xs → (kind group ≡ 1 → ⊥) → Writing result old new (joined (hints_from b groups after)) to
  unfolding hints_from
  hints_skip h n = rw (left_at xs k h, ne_eqb (kind group) 1 n) at inv

  pub hints_done : length result ≤ length old → length xs ≤ k → new ≡ overwritten result old
  unfolding hints_from joined
  hints_done fits h = writing_done result old new (joined (hints_from b groups (drop k xs))) to inv fits (ap (λ (rs : List Bytes). joined (hints_from b groups rs)) (left_none xs k h))

  -- a group's hint
  module _ (fits : length result ≤ length old) (h : k < length xs) (s : SoundFrom (drop k xs) groups) (g : kind group ≡ 1) where
    whole : length (hint_bytes groups (places_of b group after)) ≡ record_bytes
    unfolding places_of
    whole =
        let t = sound_at xs k groups h s in
        hint_whole groups (kept_indices b (is_checked b group) 0 after) (group_places b t.place group after (eq-eqb (kind group) 1 g) (sound_rest t.place group after t.sound))

    rest_is : joined (hints_from b groups (drop k xs)) ≡ hint_bytes groups (places_of b group after) ++ joined (hints_from b (groups + 1) after)
    unfolding joined hints_from places_of
    rest_is = ap (λ (rs : List Bytes). joined (hints_from b groups rs)) (left_at xs k h) ∙ rw (eq-eqb (kind group) 1 g)

    -- the hint, by the rest of the records as the code lends it
    pub hint_is : (hint : Bytes) → hint ≡ hint_bytes groups (places_of b group (take (length xs - (k + 1)) after)) → hint ≡ hint_bytes groups (places_of b group after)
    hint_is hint e = rw (take_all (length xs - (k + 1)) after (omega (arith, length-drop (k + 1) xs))) at e

    pub hints_room : (hint : Bytes) → hint ≡ hint_bytes groups (places_of b group after) → length new ≡ length old → length hint ≤ length (take (length new - to) (drop to new))
    hints_room hint e n =
        let l = writing_room result old new (joined (hints_from b groups (drop k xs))) to inv fits in
        let t = ap length rest_is ∙ length-append (hint_bytes groups (places_of b group after)) (joined (hints_from b (groups + 1) after)) in
        let r = ap length (lent_rest_lem new to) ∙ length-drop to new in
        let m = ap length e in
        omega (arith, l, t, r, m)

    pub hints_next : (hint e : Bytes) → hint ≡ hint_bytes groups (places_of b group after) → e ≡ overwritten hint (take (length new - to) (drop to new))
        → Writing result old (take to new ++ (e ++ drop (length new - to) (drop to new))) (joined (hints_from b (groups + 1) after)) (to + record_bytes)
    hints_next hint e d q =
        writing_next result old new (joined (hints_from b groups (drop k xs))) to inv fits (hint_bytes groups (places_of b group after)) (joined (hints_from b (groups + 1) after)) e record_bytes
        rest_is (sym whole) (q ∙ ap (λ (z : Bytes). overwritten z (take (length new - to) (drop to new))) d)
