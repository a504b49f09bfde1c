-- Request n: the grade is not too cautious. Of an accepted key with protection 1, 2 or 3 some blob request of exactly that protection is permitted just
-- after a load. Two wrong products that this rules out: a desk that grades every key 1, and a desk that grades by a group which it does not check.
use Prim.Native.Nat.{ℕ, suc, ◌+◌, ◌≤◌, ◌<◌, ◌^◌, min}
use native.Mathlib.Omega.{arith}
use mathlib.Core.Path.{◌≡◌, refl, sym, ◌∙◌, ap}
use mathlib.Core.Logic.{◌⊎◌, inl, inr, ◌≢◌}
use mathlib.Core.List.{List, [], ◌∷◌, map}
use mathlib.Core.Option.{Option, none, some}
use mathlib.Core.Bool.{Bool, true, false, not, ◌&&◌, ◌||◌, false≢true}
use lib.ListN.{length, get_elem?, length-take, length-drop}
use lib.Dec.{eqb, leb}
use borrow.Author.Tests.{eqb-false, leb-true, leb-false, le-ltb, eq-eqb, not-true, ne_eqb}
use Rattle.rules.specs.Sizes.{hash_bytes, groups_max, acl_records, bundle_records, request_records, certificates_max}
use Rattle.rules.specs.Numbers.{bad_length, by_cardset}
use Rattle.rules.specs.Basics.{Bytes, implies, any, all, Every, same, part, number, kind, flag, optional, present, both_same, matches, matches_number, records, fits, first_fault}
use Rattle.rules.specs.Layout.{mechanism_at, certifier_mechanism, group_laid_out, token_parameters_at, token_parameters_if, blob_action_laid_out}
use Rattle.rules.specs.Acl.{Parameters, BlobRule, BlobfileRule, Action, permissions, make_blob, make_archive, Group, parameters_at, blob_rule_of, action_of, action_laid_out, acl_of, acl_fault}
use Rattle.rules.specs.Request.{Token, WorkingBlob, working_blob, Certificate, Request, request_from, request_of, request_laid_out, request_record_fault, request_fault}
use Rattle.rules.specs.Chain.{serves, vouched}
use Rattle.rules.specs.Ledger.{Ledger, loaded_at}
use Rattle.rules.specs.Grant.{null_key, admits_blob, admits_working, admits, group_admits, certified_by, certified, unspent}
use Rattle.rules.specs.Gate.{permit, too_early, grants, request_files, request}
use Rattle.rules.specs.Written.{Octets, token_bytes, blob_request_bytes, certificate_bytes}
use Rattle.rules.specs.Runs.{with_row, mechanism_named, Decoded}
use Rattle.rules.specs.Bundle.{field}
use Rattle.rules.specs.Desk.{Grade, Acceptance, approach2, Verdict, accepted, WB1, WB2, WB6, module_key, blob_failure, failure_under, officers_group, group_failure, action_protection, smallest, key_protection, grade_of, desk, desk_fault, verdict_unless, attested, action_failure, blob_protection}
use Rattle.theorems.specs.Exhibit.{IfBlob, EveryBlob, mixed, named_or1, Presentable, served_by, presented_to, certificates_for, blob_request_file, GradePremises, AllPresented, BlobPermitted}
use Rattle.rules.proofs.Laws.{never, and_left, and_right, and_both, or_cases, or_left, or_right, implied, not_both, every_at, every_map, every_zip, any_here, same_eq, eq_same, same_refl, both_same_eq, both_same_at, unless_passed, fault_none_every, fault_none_map}
use Rattle.rules.proofs.Joined.{Whole}
use Rattle.rules.proofs.Asking.{file_records, file_fits, row_fault, row_request}
use Rattle.rules.proofs.Rows.{records_sized}
use Rattle.rules.proofs.Written.{well_formed, TokenFits, parameters_laid_out, blob_whole, blob_time, blob_wanted, blob_alone, part_octets, token_octets_lem, no_token_octets, blob_octets, certificate_octets, joined_octets, records_octets, number_below}
use Rattle.theorems.proofs.Lists.{zero_at}
use Rattle.theorems.proofs.AclFile.{ActionRead, GroupRead, acl_read}
use Rattle.theorems.proofs.Permit.{some_grants, permit_comes}
use Rattle.theorems.specs.Permits.{Permitted}
use Rattle.theorems.proofs.Hints.{tighter_self}
use Rattle.theorems.proofs.Accepted.{not_faulty, attested_policy, acl_passed, module_trusted}

ruleset conj = (and_left, and_right, and_both)

-- The key's protection is that of a checked action.
least_of : (m n : ℕ) → (min m n ≡ m) ⊎ (min m n ≡ n)
least_of m n = pick (leb m n) refl
  where
    pick : (b : Bool) → leb m n ≡ b → (min m n ≡ m) ⊎ (min m n ≡ n)
    pick true e = let l = leb-true m n e in inl (omega arith)
    pick false e = let l = leb-false m n e in inr (omega arith)

smallest_reached : (actions : List Action) → smallest actions ≤ by_cardset → (i : ℕ) × (a : Action) × (get_elem? actions i ≡ some a) × (action_protection a ≡ smallest actions)
unfolding smallest
smallest_reached [] h = absurd (omega arith)
smallest_reached (a ∷ rest) h = pick (least_of (action_protection a) (smallest rest)) (smallest_reached rest)
  where
    pick : (min (action_protection a) (smallest rest) ≡ action_protection a) ⊎ (min (action_protection a) (smallest rest) ≡ smallest rest)
        → (smallest rest ≤ by_cardset → (i : ℕ) × (x : Action) × (get_elem? rest i ≡ some x) × (action_protection x ≡ smallest rest))
        → (i : ℕ) × (x : Action) × (get_elem? (a ∷ rest) i ≡ some x) × (action_protection x ≡ min (action_protection a) (smallest rest))
    pick (inl e) f = (0, a, refl, sym e)
    pick (inr e) f = let r = f (omega arith) in (suc r.0, r.1, r.2, r.3 ∙ sym e)

key_reached : (b : List Bytes) (gs : List Group) → key_protection b gs ≤ by_cardset
    → (i : ℕ) × (g : Group) × (get_elem? gs i ≡ some g) × (officers_group b g ≡ false) × (smallest g.actions ≡ key_protection b gs)
unfolding key_protection
key_reached b [] h = absurd (omega arith)
key_reached b (g ∷ gs) h = pick (officers_group b g) refl (key_reached b gs)
  where
    pick : (t : Bool) → officers_group b g ≡ t
        → (key_protection b gs ≤ by_cardset → (i : ℕ) × (x : Group) × (get_elem? gs i ≡ some x) × (officers_group b x ≡ false) × (smallest x.actions ≡ key_protection b gs))
        → (i : ℕ) × (x : Group) × (get_elem? (g ∷ gs) i ≡ some x) × (officers_group b x ≡ false) × (smallest x.actions ≡ key_protection b (g ∷ gs))
    pick true e f = let r = f (rw e at h) in rw e (suc r.0, r.1, r.2, r.3, r.4)
    pick false e f = choose (rw e at h) (least_of (smallest g.actions) (key_protection b gs))
      where
        choose : min (smallest g.actions) (key_protection b gs) ≤ by_cardset
            → (min (smallest g.actions) (key_protection b gs) ≡ smallest g.actions) ⊎ (min (smallest g.actions) (key_protection b gs) ≡ key_protection b gs)
            → (i : ℕ) × (x : Group) × (get_elem? (g ∷ gs) i ≡ some x) × (officers_group b x ≡ false) × (smallest x.actions ≡ key_protection b (g ∷ gs))
        choose m (inl d) = rw e (0, g, refl, e, sym d)
        choose m (inr d) = let r = f (omega arith) in rw e (suc r.0, r.1, r.2, r.3, r.4 ∙ sym d)

-- A blob rule that is read off a record: its hashes have 20 bytes, and its token parameters are well formed; and they are of bytes, if Q says so of
-- the file.
record RuleFits (Q : Type 0) (r : BlobRule) : Type 0 where
  key_size : (h : Bytes) → r.kmhash ≡ some h → length h ≡ hash_bytes
  hash_size : (h : Bytes) → r.kthash ≡ some h → length h ≡ hash_bytes
  formed : (p : Parameters) → r.ktparams ≡ some p → well_formed p ≡ true
  key_octets : Q → (h : Bytes) → r.kmhash ≡ some h → Octets h
  token_octets : Q → (t : Token) → r.kthash ≡ some t.hash → r.ktparams ≡ some t.parameters → Octets (token_bytes (some t))

optional_some : {A : Type 0} (b : Bool) (x y : A) → optional b x ≡ some y → (b ≡ true) × (x ≡ y)
optional_some true x y e = (refl, cc)
optional_some false x y e = absurd (never (cc))

part_size : (off : ℕ) (r : Bytes) → off + hash_bytes ≤ length r → length (part off hash_bytes r) ≡ hash_bytes
part_size off r h = simp (length-take, length-drop) (omega arith)

rule_fits : (Q : Type 0) (r : Bytes) → Whole r → (Q → Octets r) → blob_action_laid_out r ≡ true → RuleFits Q (blob_rule_of r)
unfolding blob_action_laid_out token_parameters_if
rule_fits Q r w o e =
    record {
      key_size = λ h d. let k = optional_some (flag 2 r) (part 4 hash_bytes r) h d in rw (← k.1) (part_size 4 r (omega arith));
      hash_size = λ h d. let k = optional_some (flag 3 r) (part 24 hash_bytes r) h d in rw (← k.1) (part_size 24 r (omega arith));
      formed = λ p d.
          let k = optional_some (flag 4 r) (parameters_at 44 r) p d in
          let t : token_parameters_if 4 44 r ≡ true = search conj in
          let u : token_parameters_at 44 r ≡ true = rw k.0 at t in
          rw (← k.1) (sym (parameters_laid_out 44 r) ∙ u);
      key_octets = λ q h d. let k = optional_some (flag 2 r) (part 4 hash_bytes r) h d in rw (← k.1) (part_octets 4 hash_bytes r (o q));
      token_octets = λ q t d f.
          let k = optional_some (flag 3 r) (part 24 hash_bytes r) t.hash d in
          let m = optional_some (flag 4 r) (parameters_at 44 r) t.parameters f in
          rw (← k.1, ← m.1) (token_octets_lem (part 24 hash_bytes r) (part 44 8 r) (part_octets 24 hash_bytes r (o q)) (part_octets 44 8 r (o q)));
    }

-- an action that is read off a record, if it is a MakeBlob action
blob_read : (r : Bytes) (f : Option BlobfileRule) (rule : BlobRule) (file : Option BlobfileRule) → action_laid_out r ≡ true → action_of r f ≡ make_blob rule file → (blob_action_laid_out r ≡ true) × (blob_rule_of r ≡ rule)
unfolding action_laid_out action_of
blob_read r f rule file e d = pick (eqb (kind r) 3) refl (eqb (kind r) 4) refl
  where
    pick : (a : Bool) → eqb (kind r) 3 ≡ a → (b : Bool) → eqb (kind r) 4 ≡ b → (blob_action_laid_out r ≡ true) × (blob_rule_of r ≡ rule)
    pick true p b q = let x : permissions (number 4 2 r) ≡ make_blob rule file = rw p at d in absurd (never (cc))
    pick false p true q = let x : make_blob (blob_rule_of r) f ≡ make_blob rule file = rw (p, q) at d in (rw (p, q) at e, cc)
    pick false p false q = let x = rw (p, q) at d in absurd (never (cc))

-- The blob that a passed rule admits, of exactly its protection.
record Reached (Q : Type 0) (b : List Bytes) (km0 : Bytes) (r : BlobRule) : Type 0 where
  blob : WorkingBlob
  key_fits : length blob.key ≡ hash_bytes
  token_fits : TokenFits blob.token
  admitted : admits_blob km0 r blob ≡ true
  exact : blob_protection b blob ≡ action_protection (make_blob r none)
  key_bytes : Q → Octets blob.key
  token_of : Q → Octets (token_bytes blob.token)

not_mixed : (r : BlobRule) → mixed r ≡ false → r.km_only ≡ true → (not (present r.kthash) ≡ true) × (not (present r.ktparams) ≡ true)
not_mixed r e d = pick (present r.kthash) refl (present r.ktparams) refl
  where
    pick : (s : Bool) → present r.kthash ≡ s → (t : Bool) → present r.ktparams ≡ t → (not (present r.kthash) ≡ true) × (not (present r.ktparams) ≡ true)
    pick true p t q = absurd (false≢true (sym (rw (d, p) at e)))
    pick false p true q = absurd (false≢true (sym (rw (d, p, q) at e)))
    pick false p false q = (rw p, rw q)

there : {A : Type 0} (o : Option A) → present o ≡ true → (x : A) × (o ≡ some x)
there none e = absurd (false≢true e)
there (some x) e = (x, refl)

module _ (Q : Type 0) (b : List Bytes) (km0 : Bytes) (r : BlobRule) (fits : RuleFits Q r) (passed : blob_failure (module_key b) r ≡ none) (plain : mixed r ≡ false)
    (real : field 6 b ≢ some null_key) (home : (r.non_km0 ≡ true) ⊎ (field 6 b ≡ some km0)) where
  reached : Reached Q b km0 r
  unfolding action_protection
  reached =
      let h = fault_none_every _ passed in
      let wb1 = unless_passed (r.km_only || present r.kthash) WB1 h.0 in
      let wb2 = both_same_eq (module_key b) r.kmhash (unless_passed (both_same (module_key b) r.kmhash) WB2 h.1.0) in
      let wb6 = unless_passed (implies (present r.kthash) (present r.ktparams)) WB6 h.1.1.1.0 in
      pick wb2.0 wb2.1 wb2.2 wb1 wb6 r.km_only refl
    where
      pick : (key : Bytes) → module_key b ≡ some key → r.kmhash ≡ some key → (r.km_only || present r.kthash) ≡ true → implies (present r.kthash) (present r.ktparams) ≡ true → (m : Bool) → r.km_only ≡ m → Reached Q b km0 r
      pick key trusted kmhash wb1 wb6 = ways
        where
          hkm : field 6 b ≡ some key
          hkm = (module_trusted b key trusted).1

          not_null_lem : same key null_key ≡ false
          not_null_lem = elsewise (same key null_key) refl
            where
              elsewise : (t : Bool) → same key null_key ≡ t → same key null_key ≡ false
              elsewise true e = absurd (real (hkm ∙ ap some (same_eq key null_key e)))
              elsewise false e = e

          at_home : (r.non_km0 || same key km0) ≡ true
          at_home = choose home
            where
              choose : (r.non_km0 ≡ true) ⊎ (field 6 b ≡ some km0) → (r.non_km0 || same key km0) ≡ true
              choose (inl e) = or_left r.non_km0 (same key km0) e
              choose (inr e) = let q : key ≡ km0 = cc hkm in or_right r.non_km0 (same key km0) (eq_same key km0 q)

          keyed : matches r.kmhash key ≡ true
          keyed = rw kmhash (same_refl key)

          under : both_same (module_key b) (some key) ≡ true
          under = both_same_at (module_key b) (some key) key trusted refl

          ways : (m : Bool) → r.km_only ≡ m → Reached Q b km0 r
          ways true m =
              let n = not_mixed r plain m in
              record {
                blob = record { key = key; token = none };
                key_fits = fits.key_size key kmhash;
                token_fits = tt;
                admitted = rw (keyed, at_home, m, n.0, n.1, not_null_lem);
                exact = rw (under, m);
                key_bytes = λ q. fits.key_octets q key kmhash;
                token_of = λ q. no_token_octets;
              }
          ways false m =
              let k = there r.kthash (hashed (or_cases r.km_only (present r.kthash) wb1)) in
              let p = there r.ktparams (implied (present r.kthash) (present r.ktparams) wb6 (rw k.1)) in
              by_token k.0 p.0 k.1 p.1
            where
              hashed : (r.km_only ≡ true) ⊎ (present r.kthash ≡ true) → present r.kthash ≡ true
              hashed (inl e) = absurd (not_both r.km_only e m)
              hashed (inr e) = e

              by_token : (h : Bytes) (p : Parameters) → r.kthash ≡ some h → r.ktparams ≡ some p → Reached Q b km0 r
              by_token h p kt kp =
                  record {
                    blob = record { key = key; token = some (record { hash = h; parameters = p }) };
                    key_fits = fits.key_size key kmhash;
                    token_fits = (fits.hash_size h kt, fits.formed p kp);
                    admitted = rw (keyed, at_home, kt, same_refl h, kp, tighter_self p, not_null_lem);
                    exact = rw (under, m, kp);
                    key_bytes = λ q. fits.key_octets q key kmhash;
                    token_of = λ q. fits.token_octets q (record { hash = h; parameters = p }) kt kp;
                  }

-- The request's file.
decoded : (cs : List Certificate) → Every Presentable cs → Every Decoded cs
decoded [] h = tt
decoded (c ∷ cs) h = (h.0.0, decoded cs h.1)

named_all : (cs : List Certificate) → Every Presentable cs → all mechanism_named cs ≡ true
unfolding all
named_all [] h = refl
named_all (c ∷ cs) h = rw (ne_eqb c.mechanism 0 h.0.1) (named_all cs h.1)

certificates_octets : (cs : List Certificate) → Every (λ c. Octets (certificate_bytes c)) cs → Every Octets (map certificate_bytes cs)
certificates_octets [] h = tt
certificates_octets (c ∷ cs) h = (h.0, certificates_octets cs h.1)

file_octets : (r : Bytes) (cs : List Certificate) → Octets r → Every (λ c. Octets (certificate_bytes c)) cs → Octets (with_row r cs)
unfolding with_row
file_octets r cs h k = joined_octets (r ∷ map certificate_bytes cs) (h, certificates_octets cs k)

-- what it asks for and presents
abbrev asking : WorkingBlob → ℕ → List Certificate → Request
asking w time cs = record { wanted = working_blob w none; time = time; certificates = cs; delegations = [] }

module _ (w : WorkingBlob) (time : ℕ) (cs : List Certificate) (k : length w.key ≡ hash_bytes) (fit : TokenFits w.token) (each : Every Presentable cs) (few : length cs ≤ certificates_max) where
  blob_records : records (blob_request_file w time cs) ≡ blob_request_bytes w time ∷ map certificate_bytes cs
  blob_records = file_records (blob_request_bytes w time) cs (blob_whole w time k fit) (decoded cs each)

  blob_fits : fits request_records (blob_request_file w time cs) ≡ true
  blob_fits = file_fits (blob_request_bytes w time) cs (blob_whole w time k fit) (decoded cs each) few

  blob_sound : request_fault request_laid_out (records (blob_request_file w time cs)) ≡ none
  unfolding request_record_fault
  blob_sound =
      ap (request_fault request_laid_out) blob_records ∙ row_fault (blob_request_bytes w time) cs (decoded cs each) few (named_all cs each)
      ∙ rw (blob_alone w time k fit)

  blob_reads : request_of (blob_request_file w time cs) ≡ asking w time cs
  blob_reads =
      ap request_from blob_records ∙ row_request (blob_request_bytes w time) cs (decoded cs each)
      ∙ rw (blob_wanted w time k fit, blob_time w time k fit)

-- What an acceptance under approach 2 says of the files and the grade.
no_fault : (f : Option ℕ) (v : Verdict) (a : Acceptance) → verdict_unless f v ≡ accepted a → f ≡ none
no_fault none v a e = refl
no_fault (some f) v a e = absurd (never (cc))

-- the file is an ACL's, every group passed, and the grade is the verdict
record DeskAccepts (bundle acl : Bytes) (g : Grade) : Type 0 where
  fitting : fits acl_records acl ≡ true
  sound : acl_fault (records acl) ≡ none
  passed : Every (λ x. group_failure (records bundle) x ≡ none) (acl_of acl)
  graded : grade_of (records bundle) (acl_of acl) ≡ g

desk_accepts : (bundle acl : Bytes) (g : Grade) → desk bundle acl ≡ accepted (approach2 g) → DeskAccepts bundle acl g
unfolding desk desk_fault
desk_accepts bundle acl g e =
    let b = records bundle in
    let f = attested_policy b (acl_of acl) g (not_faulty (desk_fault bundle acl) (attested b (acl_of acl)) (approach2 g) e) in
    let n = fault_none_every _ (no_fault (desk_fault bundle acl) (attested b (acl_of acl)) (approach2 g) e) in
    record {
      fitting = and_right (fits bundle_records bundle) (fits acl_records acl) (unless_passed (fits bundle_records bundle && fits acl_records acl) bad_length n.0);
      sound = n.1.1.0;
      passed = acl_passed b (acl_of acl) f.0;
      graded = f.1;
    }

-- a group without limits is unspent just after a load
unspent_loaded : (l : Ledger) (loaded place : ℕ) (q : Request) (g : Group) → g.limits ≡ [] → unspent (loaded_at l loaded) place q g ≡ true
unfolding all
unspent_loaded l loaded place q g e = rw (e, zero_at groups_max place)

any_at : {A : Type 0} (p : A → Bool) (xs : List A) (i : ℕ) (x : A) → get_elem? xs i ≡ some x → p x ≡ true → any p xs ≡ true
any_at p xs i x e d = every_at (λ y. p y ≡ true → any p xs ≡ true) xs i x (any_here p xs) e d

-- a rule of a checked group passes the desk's steps
rule_passed : (b : List Bytes) (g : Group) (i : ℕ) (r : BlobRule) (f : Option BlobfileRule) → group_failure b g ≡ none → officers_group b g ≡ false → get_elem? g.actions i ≡ some (make_blob r f) → blob_failure (module_key b) r ≡ none
unfolding failure_under
rule_passed b g i r f e d x = every_at (λ a. action_failure b a ≡ none) g.actions i (make_blob r f) (fault_none_map (action_failure b) g.actions (rw d at e)) x

-- an action of protection at most 3 is a MakeBlob action
is_blob_lem : (a : Action) → action_protection a ≤ by_cardset → (r : BlobRule) × (f : Option BlobfileRule) × (a ≡ make_blob r f)
unfolding action_protection
is_blob_lem (permissions bits) h = absurd (omega arith)
is_blob_lem (make_blob r f) h = (r, f, refl)
is_blob_lem (make_archive a f) h = absurd (omega arith)

-- the files of a request have no fault
files_none : (km0 acl file : Bytes) → length km0 ≡ hash_bytes → fits acl_records acl ≡ true → acl_fault (records acl) ≡ none → fits request_records file ≡ true → request_fault request_laid_out (records file) ≡ none → request_files km0 acl file ≡ none
unfolding first_fault
files_none km0 acl file k f s t u = rw (eq-eqb (length km0) hash_bytes k, f, s, t, u)

-- a request without fault, of which it is known what it says, is permitted just after a load if a group without limits admits it and is certified
permits_read : (acl km0 file : Bytes) (ledger : Ledger) (loaded : ℕ) (q : Request) → request_files km0 acl file ≡ none → request_of file ≡ q → loaded ≤ q.time
    → (i : ℕ) (g : Group) → get_elem? (acl_of acl) i ≡ some g → group_admits km0 q g ≡ true → certified q g ≡ true → g.limits ≡ []
    → (k : ℕ) × ((request (loaded_at ledger loaded) km0 acl file).answer ≡ permit k)
permits_read acl km0 file ledger loaded q files reads late i g gi admitting certifies unlimited =
    let l = loaded_at ledger loaded in
    let left = unspent_loaded ledger loaded i q g unlimited in
    let granting : grants l km0 q i g ≡ true = and_both (group_admits km0 q g && certified q g) (unspent l i q g) (and_both (group_admits km0 q g) (certified q g) admitting certifies) left in
    let timely : too_early l q ≡ false = rw (le-ltb q.time loaded late) in
    let m = some_grants (request_files km0 acl file) l km0 (acl_of acl) q i g files timely gi granting in
    named m.0 m.1 m.2
  where
    named : (k : ℕ) (h : Group) → Permitted (request_files km0 acl file) (loaded_at ledger loaded) km0 (acl_of acl) q k h → (k : ℕ) × ((request (loaded_at ledger loaded) km0 acl file).answer ≡ permit k)
    named k h p = (k, rw (permit_comes (loaded_at ledger loaded) km0 acl file k h (rw reads p)))

admits_blob_lem : (km0 : Bytes) (w : WorkingBlob) (r : BlobRule) (f : Option BlobfileRule) → f ≡ none → admits_blob km0 r w ≡ true → admits km0 (working_blob w none) (make_blob r f) ≡ true
unfolding admits admits_working
admits_blob_lem km0 w r f n e = rw n (and_both (admits_blob km0 r w) true e refl)

-- a group whose certifier is presented is certified
served_certified : (q : Request) (g : Group) → served_by g.certifier g.mechanism q.certificates ≡ true → certified q g ≡ true
unfolding vouched
served_certified q g e = pick g.certifier e
  where
    pick : (k : Option Bytes) → served_by k g.mechanism q.certificates ≡ true → certified_by k g.mechanism q.wanted q.certificates q.delegations ≡ true
    pick none d = refl
    pick (some k) d = or_left (any (serves k g.mechanism) q.certificates) _ d

-- a record of the ACL's file: 64 bytes, which are below 256 if the file's are
abbrev Read : Bytes → Bytes → Type 0
Read acl r = Whole r × (Octets acl → Octets r)

acl_records_lem : (acl : Bytes) → Every (Read acl) (records acl)
acl_records_lem acl = every_zip Whole (λ x. Octets acl → Octets x) (records acl) (records_sized acl) (later (records acl) (records_octets acl))
  where
    later : (rs : List Bytes) → (Octets acl → Every Octets rs) → Every (λ x. Octets acl → Octets x) rs
    later [] h = tt
    later (x ∷ rs) h = (λ q. (h q).0, later rs (λ q. (h q).1))

-- a predicate of every MakeBlob action, at one of them
blob_at : (P : BlobRule → Option BlobfileRule → Type 0) (gs : List Group) (i : ℕ) (g : Group) (j : ℕ) (r : BlobRule) (f : Option BlobfileRule) → EveryBlob P gs → get_elem? gs i ≡ some g → get_elem? g.actions j ≡ some (make_blob r f) → P r f
blob_at P gs i g j r f h e d = every_at (IfBlob P) g.actions j (make_blob r f) (every_at (λ g. Every (IfBlob P) g.actions) gs i g h e) d

-- a rule of a sound ACL file
rule_read : (acl : Bytes) (i : ℕ) (g : Group) (j : ℕ) (r : BlobRule) (f : Option BlobfileRule) → acl_fault (records acl) ≡ none → get_elem? (acl_of acl) i ≡ some g → get_elem? g.actions j ≡ some (make_blob r f) → RuleFits (Octets acl) r
rule_read acl i g j r f sound gi rj =
    let group = every_at (GroupRead (Read acl)) (acl_of acl) i g (acl_read (Read acl) (records acl) sound (acl_records_lem acl)) gi in
    let read = every_at (ActionRead (Read acl)) g.actions j (make_blob r f) group.actions_read rj in
    let rule = blob_read read.0 read.1 r f read.3 read.4 in
    rw rule.1 at (rule_fits (Octets acl) read.0 read.2.0 read.2.1 rule.0)

-- the checked MakeBlob action whose protection is the key's
record Chosen (b : List Bytes) (gs : List Group) : Type 0 where
  at : ℕ
  group : Group
  place : ℕ
  rule : BlobRule
  file : Option BlobfileRule
  group_there : get_elem? gs at ≡ some group
  checked : officers_group b group ≡ false
  rule_there : get_elem? group.actions place ≡ some (make_blob rule file)
  least : action_protection (make_blob rule file) ≡ key_protection b gs

-- "Protection grading stays the same."
unstored : (r : BlobRule) (f : Option BlobfileRule) → action_protection (make_blob r none) ≡ action_protection (make_blob r f)
unfolding action_protection
unstored r f = refl

choose : (b : List Bytes) (gs : List Group) → key_protection b gs ≤ by_cardset → Chosen b gs
choose b gs h =
    let k = key_reached b gs h in
    let s = smallest_reached k.1.actions (omega (arith, k.4)) in
    let r = is_blob_lem s.1 (omega (arith, s.3, k.4)) in
    record {
      at = k.0;
      group = k.1;
      place = s.0;
      rule = r.0;
      file = r.1;
      group_there = k.2;
      checked = k.3;
      rule_there = rw r.2 at s.2;
      least = rw r.2 at (s.3 ∙ k.4);
    }

-- Request n: "Just after a load, with all certifiers presented at the mechanisms named, and at most 32 such certificates, some blob request of exactly that
-- protection is permitted."
pub grade_reached : (bundle acl : Bytes) (verdict : Grade) (km0 : Bytes) (ledger : Ledger) (loaded time : ℕ) (certificates : List Certificate)
    → GradePremises bundle acl verdict km0 loaded time certificates → AllPresented acl certificates
    → BlobPermitted bundle acl km0 (loaded_at ledger loaded) time verdict.protection certificates
grade_reached bundle acl verdict km0 ledger loaded time cs given presented =
    let d = desk_accepts bundle acl verdict given.accepts in
    let p : key_protection (records bundle) (acl_of acl) ≡ verdict.protection = ap (λ (g : Grade). g.protection) d.graded in
    chosen d p (choose (records bundle) (acl_of acl) (omega (arith, p, given.graded)))
  where
    chosen : DeskAccepts bundle acl verdict → key_protection (records bundle) (acl_of acl) ≡ verdict.protection → Chosen (records bundle) (acl_of acl)
        → BlobPermitted bundle acl km0 (loaded_at ledger loaded) time verdict.protection cs
    chosen d p c =
        exhibited
        (reached (Octets acl) (records bundle) km0 c.rule (rule_read acl c.at c.group c.place c.rule c.file d.sound c.group_there c.rule_there)
        (rule_passed (records bundle) c.group c.place c.rule c.file (every_at (λ x. group_failure (records bundle) x ≡ none) (acl_of acl) c.at c.group d.passed c.group_there) c.checked c.rule_there)
        (blob_at (λ r f. mixed r ≡ false) (acl_of acl) c.at c.group c.place c.rule c.file given.unmixed c.group_there c.rule_there)
        given.not_null
        (blob_at (λ r f. (r.non_km0 ≡ true) ⊎ (field 6 (records bundle) ≡ some km0)) (acl_of acl) c.at c.group c.place c.rule c.file given.home c.group_there c.rule_there))
      where
        exhibited : Reached (Octets acl) (records bundle) km0 c.rule → BlobPermitted bundle acl km0 (loaded_at ledger loaded) time verdict.protection cs
        exhibited w = answered (permits_read acl km0 (blob_request_file w.blob time cs) ledger loaded (asking w.blob time cs)
            (files_none km0 acl (blob_request_file w.blob time cs) given.km0_sized d.fitting d.sound (blob_fits w.blob time cs w.key_fits w.token_fits presented.each given.few) (blob_sound w.blob time cs w.key_fits w.token_fits presented.each given.few))
            (blob_reads w.blob time cs w.key_fits w.token_fits presented.each given.few) given.after_load c.at c.group c.group_there
            (any_at (admits km0 (working_blob w.blob none)) c.group.actions c.place (make_blob c.rule c.file) c.rule_there
            (admits_blob_lem km0 w.blob c.rule c.file (blob_at (λ r f. f ≡ none) (acl_of acl) c.at c.group c.place c.rule c.file given.returned c.group_there c.rule_there) w.admitted))
            (served_certified (asking w.blob time cs) c.group (every_at (λ g. served_by g.certifier g.mechanism cs ≡ true) (acl_of acl) c.at c.group presented.serving c.group_there))
            (every_at (λ g. g.limits ≡ []) (acl_of acl) c.at c.group given.unlimited c.group_there))
          where
            answered : (k : ℕ) × ((request (loaded_at ledger loaded) km0 acl (blob_request_file w.blob time cs)).answer ≡ permit k) → BlobPermitted bundle acl km0 (loaded_at ledger loaded) time verdict.protection cs
            answered m =
                record {
                  blob = w.blob;
                  place = m.0;
                  protects = w.exact ∙ unstored c.rule c.file ∙ c.least ∙ p;
                  reads = blob_reads w.blob time cs w.key_fits w.token_fits presented.each given.few;
                  permits = m.1;
                  is_bytes = λ q t o. file_octets (blob_request_bytes w.blob time) cs (blob_octets w.blob time (w.key_bytes q) (w.token_of q) t) o;
                }

-- The certificates that are built from the ACL's groups serve every group.
presented_mono : (k : Option Bytes) (m : Option ℕ) (cs : List Certificate) (h : Option Bytes) (n : Option ℕ) → served_by h n cs ≡ true → served_by h n (presented_to k m cs) ≡ true
unfolding any
presented_mono none m cs h n e = e
presented_mono (some k) m cs none n e = refl
presented_mono (some k) m cs (some h) n e = pick (any (serves k m) cs) refl
  where
    pick : (b : Bool) → any (serves k m) cs ≡ b → served_by (some h) n (presented_to (some k) m cs) ≡ true
    pick true d = rw d e
    pick false d = rw d (or_right (serves h n (record { hash = k; mechanism = named_or1 m })) (any (serves h n) cs) e)

presented_served : (k : Option Bytes) (m : Option ℕ) (cs : List Certificate) → served_by k m (presented_to k m cs) ≡ true
unfolding any serves
presented_served none m cs = refl
presented_served (some k) m cs = pick (any (serves k m) cs) refl
  where
    named : (m : Option ℕ) → matches_number m (named_or1 m) ≡ true
    named none = refl
    named (some n) = eq-eqb n n refl

    pick : (b : Bool) → any (serves k m) cs ≡ b → served_by (some k) m (presented_to (some k) m cs) ≡ true
    pick true d = rw d d
    pick false d =
        rw d
        (or_left (same k k && matches_number m (named_or1 m)) (any (serves k m) cs)
        (and_both (same k k) (matches_number m (named_or1 m)) (same_refl k) (named m)))

pub all_certified : (gs : List Group) → Every (λ g. served_by g.certifier g.mechanism (certificates_for gs) ≡ true) gs
unfolding certificates_for
all_certified [] = tt
all_certified (g ∷ gs) = (
  presented_served g.certifier g.mechanism (certificates_for gs),
  every_map (λ h. served_by h.certifier h.mechanism (certificates_for gs) ≡ true) (λ h. served_by h.certifier h.mechanism (certificates_for (g ∷ gs)) ≡ true) gs
      (λ h e. presented_mono g.certifier g.mechanism (certificates_for gs) h.certifier h.mechanism e) (all_certified gs),
)

-- a certifier with its mechanism, as read off a group record, can be presented
record CertifierFits (Q : Type 0) (g : Group) : Type 0 where
  hash_size : (k : Bytes) → g.certifier ≡ some k → length k ≡ hash_bytes
  not_zero : (m : ℕ) → g.mechanism ≡ some m → m ≢ 0
  hash_octets : Q → (k : Bytes) → g.certifier ≡ some k → Octets k
  small : Q → (m : ℕ) → g.mechanism ≡ some m → m < 256 ^ 2

certifier_fits : (acl : Bytes) (g : Group) → GroupRead (Read acl) g → CertifierFits (Octets acl) g
unfolding group_laid_out certifier_mechanism mechanism_at
certifier_fits acl g read =
    let r = read.head in
    let w = read.holds.0 in
    let laid = read.laid_out in
    record {
      hash_size = λ k d. let o = optional_some (flag 0 r) (part 4 hash_bytes r) k (sym read.certifier_read ∙ d) in rw (← o.1) (part_size 4 r (omega arith));
      not_zero = λ m d z.
          let o = optional_some (flag 1 r) (number 24 2 r) m (sym read.mechanism_read ∙ d) in
          let t : certifier_mechanism r ≡ true = search conj in
          let u : (flag 0 r && not (eqb (number 24 2 r) 0)) ≡ true = rw o.0 at t in
          let n = not-true (eqb (number 24 2 r) 0) (and_right (flag 0 r) (not (eqb (number 24 2 r) 0)) u) in
          eqb-false (number 24 2 r) 0 n (o.1 ∙ z);
      hash_octets = λ q k d. let o = optional_some (flag 0 r) (part 4 hash_bytes r) k (sym read.certifier_read ∙ d) in rw (← o.1) (part_octets 4 hash_bytes r (read.holds.1 q));
      small = λ q m d. let o = optional_some (flag 1 r) (number 24 2 r) m (sym read.mechanism_read ∙ d) in rw (← o.1) (number_below 24 2 r (read.holds.1 q));
    }

-- each certificate that is built from such groups has a property, if one for each group has it
built : (P : Certificate → Type 0) (gs : List Group) → Every (λ g. (k : Bytes) → g.certifier ≡ some k → P (record { hash = k; mechanism = named_or1 g.mechanism })) gs → Every P (certificates_for gs)
unfolding certificates_for
built P [] h = tt
built P (g ∷ gs) h = one g.certifier h.0 (built P gs h.1)
  where
    one : (k : Option Bytes) → ((x : Bytes) → k ≡ some x → P (record { hash = x; mechanism = named_or1 g.mechanism })) → Every P (certificates_for gs) → Every P (presented_to k g.mechanism (certificates_for gs))
    one none f r = r
    one (some k) f r = pick (any (serves k g.mechanism) (certificates_for gs)) refl
      where
        pick : (b : Bool) → any (serves k g.mechanism) (certificates_for gs) ≡ b → Every P (presented_to (some k) g.mechanism (certificates_for gs))
        pick true d = rw d r
        pick false d = rw d (f k refl, r)

named_not_zero : (m : Option ℕ) → ((n : ℕ) → m ≡ some n → n ≢ 0) → named_or1 m ≢ 0
named_not_zero none f = λ z. omega arith
named_not_zero (some n) f = f n refl

named_small : (m : Option ℕ) → ((n : ℕ) → m ≡ some n → n < 256 ^ 2) → named_or1 m < 256 ^ 2
named_small none f = omega arith
named_small (some n) f = f n refl

-- Request n, with the request exhibited whole: the certificates are built from the ACL's groups, one for each certifier and mechanism. Its bytes are
-- below 256 if the ACL's are and the time has 64 bits.
pub grade_reached_exhibited : (bundle acl : Bytes) (verdict : Grade) (km0 : Bytes) (ledger : Ledger) (loaded time : ℕ)
    → GradePremises bundle acl verdict km0 loaded time (certificates_for (acl_of acl))
    → (p : BlobPermitted bundle acl km0 (loaded_at ledger loaded) time verdict.protection (certificates_for (acl_of acl)))
    × (Octets acl → time < 256 ^ 8 → Octets (blob_request_file p.blob time (certificates_for (acl_of acl))))
grade_reached_exhibited bundle acl verdict km0 ledger loaded time given =
    whole (grade_reached bundle acl verdict km0 ledger loaded time (certificates_for (acl_of acl)) given (record { each = each; serving = all_certified (acl_of acl) }))
  where
    fitting : Every (CertifierFits (Octets acl)) (acl_of acl)
    fitting =
        every_map (GroupRead (Read acl)) (CertifierFits (Octets acl)) (acl_of acl) (certifier_fits acl)
        (acl_read (Read acl) (records acl) (desk_accepts bundle acl verdict given.accepts).sound (acl_records_lem acl))

    each : Every Presentable (certificates_for (acl_of acl))
    each = built Presentable (acl_of acl) (every_map (CertifierFits (Octets acl)) _ (acl_of acl) (λ g f k e. (f.hash_size k e, named_not_zero g.mechanism f.not_zero)) fitting)

    whole : (p : BlobPermitted bundle acl km0 (loaded_at ledger loaded) time verdict.protection (certificates_for (acl_of acl)))
        → (p : BlobPermitted bundle acl km0 (loaded_at ledger loaded) time verdict.protection (certificates_for (acl_of acl)))
        × (Octets acl → time < 256 ^ 8 → Octets (blob_request_file p.blob time (certificates_for (acl_of acl))))
    whole p = (
      p,
      λ q t. p.is_bytes q t (built (λ c. Octets (certificate_bytes c)) (acl_of acl)
          (every_map (CertifierFits (Octets acl)) _ (acl_of acl)
          (λ g f k e. certificate_octets (record { hash = k; mechanism = named_or1 g.mechanism }) (f.hash_octets q k e) (named_small g.mechanism (f.small q))) fitting)),
    )
