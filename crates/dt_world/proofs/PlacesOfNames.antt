-- Sessions by their places in the workload: the one of a name at a region is found there, by the names of all.
use Rattle.std.proofs.Common.{eq-eqb, ◌≡◌, ◌≢◌, ◌<◌, ◌≤◌, ◌+◌, ◌⊎◌, ℕ, zero, suc, Bool, true, false, cond, ltb, List, [], ◌∷◌, ◌++◌, length, map, get_or, set, take}
use Rattle.std.proofs.Common.{Some, None, refl, sym, ap, ap₂, subst, ◌∙◌, inl, inr, arith}
use Rattle.std.specs.Prelude.{Option, option_map}
use Rattle.std.specs.Cmp.Lexicographic.{bytes_decides}
use Rattle.std.specs.List.{position, position_or_len}
use Rattle.std.proofs.lemmas.Bool.{cases_Bool, false_from_ne_true}
use Rattle.std.proofs.lemmas.Bool.Decides.{nat_tests}
use Rattle.std.proofs.lemmas.List.{length-map, length-take, map_push, take-map, take_more, get_or_default}
use Rattle.std.proofs.lemmas.Option.{slice_get-get_or, get_or_from_slice_get, slice_get_within}
use Rattle.std.specs.List.{list_any, slice_get}
use Rattle.std.proofs.lemmas.List.Quantifiers.{position-Some}
use Rattle.std.proofs.Math.ListN.{get_or-map}
use Rattle.dt_lists.specs.Lists.{Distinct, Either, Has}
use Rattle.dt_lists.proofs.Callers.{any_get, any_of_test, each_at, get_front, front_take, either_le, either_nat, place_of}
use Rattle.dt_access.specs.Clash.{Bytes, same_key}
use Rattle.dt_workload.specs.declared.Session.{Session}
use Rattle.dt_session.specs.World.{Place, is_session, session_at, with_place}
use Rattle.dt_agreement.proofs.Callers.{session_of_test}
use Rattle.dt_access.proofs.Callers.{key_of_test}

-- the first place at which a test passes, by recursion

abbrev place_where : {A : Type 0} → (A → Bool) → List A → Option ℕ
place_where p [] = None
place_where p (x ∷ xs) = cond (p x) (Some 0) (option_map suc (place_where p xs))

ltb_suc : (a b : ℕ) → ltb (1 + a) (suc b) ≡ ltb a b
ltb_suc a b = grind (arith, nat_tests)

ltb_zero : (b : ℕ) → ltb 0 (suc b) ≡ true
ltb_zero b = grind (arith, nat_tests)

pub position_is : {A : Type 0} (p : A → Bool) (xs : List A) → position p xs ≡ place_where p xs
position_is p [] = refl
position_is p (x ∷ xs) = go (cases_Bool (p x)) (position_is p xs)
  where
    go : (p x ≡ true) ⊎ (p x ≡ false) → position p xs ≡ place_where p xs → position p (x ∷ xs) ≡ place_where p (x ∷ xs)
    go (inl e) ih = rw e (rw (ltb_zero (length xs)) refl)
    go (inr n) ih = rw n (rw (ltb_suc (position_or_len p xs) (length xs)) (again (ltb (position_or_len p xs) (length xs)) ∙ ap (option_map suc) ih))
      where
        again : (b : Bool) → cond b (Some (1 + position_or_len p xs)) None ≡ option_map suc (cond b (Some (position_or_len p xs)) None)
        again true = ap Some (omega arith)
        again false = refl

-- a session is found where the test passes first, and it is that place which changes

module _ (region : ℕ) (name : Bytes) where
  -- the place of the session in a list, if it is there
  abbrev where_in : List Session → Option ℕ
  where_in = place_where (is_session region name)

  at_where : (sessions : List Session) (places : List Place) → length places ≡ length sessions → (i : ℕ) (d : Session) (e : Place) → where_in sessions ≡ Some i
      → session_at sessions places region name ≡ Some (get_or sessions i d, get_or places i e)
  at_where [] places same i d e found = cc
  at_where (s ∷ sessions) [] same i d e found = absurd (omega arith)
  at_where (s ∷ sessions) (p ∷ places) same i d e found = go (cases_Bool (is_session region name s)) (where_in sessions) refl (λ j f. at_where sessions places (omega arith) j d e f)
    where
      go : (is_session region name s ≡ true) ⊎ (is_session region name s ≡ false) → (o : Option ℕ) → where_in sessions ≡ o
          → ((j : ℕ) → where_in sessions ≡ Some j → session_at sessions places region name ≡ Some (get_or sessions j d, get_or places j e))
          → session_at (s ∷ sessions) (p ∷ places) region name ≡ Some (get_or (s ∷ sessions) i d, get_or (p ∷ places) i e)
      go (inl y) o is later =
          let here : ◌≡◌ {A = Option ℕ} (Some 0) (Some i) = rw y at found in
          let zero_is : 0 ≡ i = cc in
          subst (λ j. session_at (s ∷ sessions) (p ∷ places) region name ≡ Some (get_or (s ∷ sessions) j d, get_or (p ∷ places) j e)) zero_is (rw y refl)
      go (inr n) None is later =
          let none : ◌≡◌ {A = Option ℕ} (option_map suc (where_in sessions)) (Some i) = rw n at found in
          absurd (cc)
      go (inr n) (Some j) is later =
          let there : ◌≡◌ {A = Option ℕ} (option_map suc (where_in sessions)) (Some i) = rw n at found in
          let next_is : ◌≡◌ {A = Option ℕ} (Some (suc j)) (Some i) = sym (ap (option_map suc) is) ∙ there in
          let suc_is : suc j ≡ i = cc in
          subst (λ k. session_at (s ∷ sessions) (p ∷ places) region name ≡ Some (get_or (s ∷ sessions) k d, get_or (p ∷ places) k e)) suc_is (rw n (later j is))

  not_where : (sessions : List Session) (places : List Place) → where_in sessions ≡ None → session_at sessions places region name ≡ None
  not_where [] places none = refl
  not_where (s ∷ sessions) [] none = refl
  not_where (s ∷ sessions) (p ∷ places) none = go (cases_Bool (is_session region name s)) (where_in sessions) refl (not_where sessions places)
    where
      go : (is_session region name s ≡ true) ⊎ (is_session region name s ≡ false) → (o : Option ℕ) → where_in sessions ≡ o
          → (where_in sessions ≡ None → session_at sessions places region name ≡ None) → session_at (s ∷ sessions) (p ∷ places) region name ≡ None
      go (inl y) o is f = let here : ◌≡◌ {A = Option ℕ} (Some 0) None = rw y at none in absurd (cc)
      go (inr n) None is f = rw n (f is)
      go (inr n) (Some j) is f =
          let there : ◌≡◌ {A = Option ℕ} (option_map suc (where_in sessions)) None = rw n at none in
          absurd (cc)

  with_where : (sessions : List Session) (places : List Place) (p : Place) → length places ≡ length sessions → (i : ℕ) → where_in sessions ≡ Some i
      → with_place sessions places region name p ≡ set places i p
  with_where [] places p same i found = cc
  with_where (s ∷ sessions) [] p same i found = absurd (omega arith)
  with_where (s ∷ sessions) (q ∷ places) p same i found = go (cases_Bool (is_session region name s)) (where_in sessions) refl (λ j f. with_where sessions places p (omega arith) j f)
    where
      go : (is_session region name s ≡ true) ⊎ (is_session region name s ≡ false) → (o : Option ℕ) → where_in sessions ≡ o
          → ((j : ℕ) → where_in sessions ≡ Some j → with_place sessions places region name p ≡ set places j p) → with_place (s ∷ sessions) (q ∷ places) region name p ≡ set (q ∷ places) i p
      go (inl y) o is later =
          let here : ◌≡◌ {A = Option ℕ} (Some 0) (Some i) = rw y at found in
          let zero_is : 0 ≡ i = cc in
          subst (λ j. with_place (s ∷ sessions) (q ∷ places) region name p ≡ set (q ∷ places) j p) zero_is (rw y refl)
      go (inr n) None is later =
          let none : ◌≡◌ {A = Option ℕ} (option_map suc (where_in sessions)) (Some i) = rw n at found in
          absurd (cc)
      go (inr n) (Some j) is later =
          let there : ◌≡◌ {A = Option ℕ} (option_map suc (where_in sessions)) (Some i) = rw n at found in
          let next_is : ◌≡◌ {A = Option ℕ} (Some (suc j)) (Some i) = sym (ap (option_map suc) is) ∙ there in
          let suc_is : suc j ≡ i = cc in
          subst (λ k. with_place (s ∷ sessions) (q ∷ places) region name p ≡ set (q ∷ places) k p) suc_is (rw n (ap (λ l. q ∷ l) (later j is)))

  pub session_of_place : (sessions : List Session) (places : List Place) → length places ≡ length sessions → (i : ℕ) (d : Session) (e : Place) → position (is_session region name) sessions ≡ Some i
      → session_at sessions places region name ≡ Some (get_or sessions i d, get_or places i e)
  session_of_place sessions places same i d e found = at_where sessions places same i d e (sym (position_is (is_session region name) sessions) ∙ found)

  pub no_session_of_none : (sessions : List Session) (places : List Place) → position (is_session region name) sessions ≡ None → session_at sessions places region name ≡ None
  no_session_of_none sessions places none = not_where sessions places (sym (position_is (is_session region name) sessions) ∙ none)

  pub place_set : (sessions : List Session) (places : List Place) (p : Place) → length places ≡ length sessions → (i : ℕ) → position (is_session region name) sessions ≡ Some i
      → with_place sessions places region name p ≡ set places i p
  place_set sessions places p same i found = with_where sessions places p same i (sym (position_is (is_session region name) sessions) ∙ found)

-- the place of a name among distinct names is that of its session

none_where : {A : Type 0} (p : A → Bool) (xs : List A) → ((k : ℕ) (d : A) → k < length xs → p (get_or xs k d) ≡ false) → place_where p xs ≡ None
none_where p [] f = refl
none_where p (x ∷ xs) f = let first : p x ≡ false = f 0 x (omega arith) in rw first (ap (option_map suc) (none_where p xs (λ k d lt. f (suc k) d (omega arith))))

some_where : {A : Type 0} (p : A → Bool) (xs : List A) (i : ℕ) (e : A) → i < length xs → p (get_or xs i e) ≡ true → ((k : ℕ) (d : A) → k < i → p (get_or xs k d) ≡ false) → place_where p xs ≡ Some i
some_where p [] i e lt is f = absurd (omega arith)
some_where p (x ∷ xs) zero e lt is f = rw is refl
some_where p (x ∷ xs) (suc i) e lt is f = let first : p x ≡ false = f 0 x (omega arith) in rw first (ap (option_map suc) (some_where p xs i e (omega arith) is (λ k d l. f (suc k) d (omega arith))))

-- what stands at two places of distinct items differs
distinct_places : {A : Type 0} (xs : List A) (i j : ℕ) (d : A) → Distinct xs → i < length xs → j < length xs → i ≢ j → get_or xs i d ≢ get_or xs j d
distinct_places xs i j d once li lj n = go (either_le (suc i) j)
  where
    go : Either (i < j) → get_or xs i d ≢ get_or xs j d
    go (inl lt) = each_at (λ x y. ¬ (x ≡ y)) xs i j (get_or xs i d) (get_or xs j d) once lt (slice_get-get_or xs i d li) (slice_get-get_or xs j d lj)
    go (inr m) = λ e. each_at (λ x y. ¬ (x ≡ y)) xs j i (get_or xs j d) (get_or xs i d) once (omega arith) (slice_get-get_or xs j d lj) (slice_get-get_or xs i d li) (sym e)

not_session : (region : ℕ) (name : Bytes) (s : Session) → (s.name ≡ name → s.region ≡ region → ⊥) → is_session region name s ≡ false
not_session region name s n = false_from_ne_true (is_session region name s) (λ e. let r : (s.name ≡ name) × (s.region ≡ region) = session_of_test region name s e in n r.0 r.1)

is_session_there : (region : ℕ) (name : Bytes) (s : Session) → s.name ≡ name → s.region ≡ region → is_session region name s ≡ true
is_session_there region name s n r = rw ((bytes_decides s.name name).1 n) (eq-eqb s.region region r)

module _ (region : ℕ) (name : Bytes) (sessions : List Session) (once : Distinct (map (λ s. s.name) sessions)) where
  -- the names of the sessions, in their order
  abbrev names : List Bytes
  names = map (λ s. s.name) sessions

  has_name : (k : ℕ) → k < length sessions → k < length names
  has_name k lt = subst (λ n. k < n) (sym (length-map sessions (λ s. s.name))) lt

  name_at : (k : ℕ) (d : Session) → get_or names k d.name ≡ (get_or sessions k d).name
  name_at k d = get_or-map (λ s. s.name) sessions k d

  module _ (i : ℕ) (found : position (same_key name) names ≡ Some i) (d : Session) where
    stands : (i < length names) × (same_key name (get_or names i d.name) ≡ true) × ((k : ℕ) → k < i → same_key name (get_or names k d.name) ≡ false)
    stands = position-Some (same_key name) names i d.name found

    within : i < length sessions
    within = subst (λ n. i < n) (length-map sessions (λ s. s.name)) stands.0

    named : (get_or sessions i d).name ≡ name
    named = sym (key_of_test name (get_or names i d.name) stands.1 ∙ name_at i d)

    only : (k : ℕ) (e : Session) → k < length sessions → k ≢ i → (get_or sessions k e).name ≢ name
    only k e lt n same =
        let there : get_or names k e.name ≡ get_or names i e.name = name_at k e ∙ same ∙ sym named ∙ sym (name_at i d)
        ∙ get_or_default names i d.name e.name (has_name i within) in
        distinct_places names k i e.name once (has_name k lt) (has_name i within) n there

    pub place_found : (get_or sessions i d).region ≡ region → position (is_session region name) sessions ≡ Some i
    place_found here = position_is (is_session region name) sessions ∙ some_where (is_session region name) sessions i d within (is_session_there region name (get_or sessions i d) named here)
        (λ k e lt. not_session region name (get_or sessions k e) (λ n r. only k e (let w : i < length sessions = within in omega arith) (λ same. let eq : k ≡ i = same in omega arith) n))

    pub place_elsewhere : (get_or sessions i d).region ≢ region → position (is_session region name) sessions ≡ None
    place_elsewhere away = position_is (is_session region name) sessions ∙ none_where (is_session region name) sessions (λ k e lt. not_session region name (get_or sessions k e) (λ n r. go k e lt n r (either_nat k i)))
      where
        go : (k : ℕ) (e : Session) → k < length sessions → (get_or sessions k e).name ≡ name → (get_or sessions k e).region ≡ region → Either (k ≡ i) → ⊥
        go k e lt n r (inl same) = away (ap (λ s. s.region) (get_or_default sessions i d e within) ∙ subst (λ j. (get_or sessions j e).region ≡ region) same r)
        go k e lt n r (inr other) = only k e lt other n

  pub place_unknown : position (same_key name) names ≡ None → position (is_session region name) sessions ≡ None
  place_unknown none = position_is (is_session region name) sessions ∙ none_where (is_session region name) sessions (λ k e lt. not_session region name (get_or sessions k e) (λ n r. absent k e lt n))
    where
      fails : (p : Bytes → Bool) (xs : List Bytes) → place_where p xs ≡ None → (k : ℕ) (d : Bytes) → k < length xs → p (get_or xs k d) ≡ false
      fails p [] e k d lt = absurd (omega arith)
      fails p (x ∷ xs) e k d lt = go (cases_Bool (p x)) (place_where p xs) refl k lt (fails p xs)
        where
          go : (p x ≡ true) ⊎ (p x ≡ false) → (o : Option ℕ) → place_where p xs ≡ o → (k : ℕ) → k < length (x ∷ xs)
              → (place_where p xs ≡ None → (k : ℕ) (d : Bytes) → k < length xs → p (get_or xs k d) ≡ false)
              → p (get_or (x ∷ xs) k d) ≡ false
          go (inl y) o is k lt f = let here : ◌≡◌ {A = Option ℕ} (Some 0) None = rw y at e in absurd (cc)
          go (inr n) (Some j) is k lt f = let there : ◌≡◌ {A = Option ℕ} (option_map suc (place_where p xs)) None = rw n at e in absurd (cc)
          go (inr n) None is zero lt f = n
          go (inr n) None is (suc k) lt f = f is k d (omega arith)

      absent : (k : ℕ) (e : Session) → k < length sessions → (get_or sessions k e).name ≢ name
      absent k e lt same =
          let no : same_key name (get_or names k e.name) ≡ false =
          fails (same_key name) names (sym (position_is (same_key name) names) ∙ none) k e.name (has_name k lt) in
          let yes : same_key name (get_or names k e.name) ≡ true = (bytes_decides name (get_or names k e.name)).1 (sym (name_at k e ∙ same)) in
          absurd (cc)

-- a new name is not among the names before it
pub name_new : (xs : List Bytes) (n : ℕ) (d : Bytes) → Distinct xs → n < length xs → list_any (same_key (get_or xs n d)) (take n xs) ≡ false
name_new xs n d once lt = false_from_ne_true (list_any (same_key (get_or xs n d)) (take n xs)) (λ e. there (any_get _ (take n xs) (any_of_test (same_key (get_or xs n d)) (take n xs) e)))
  where
    there : ((y : Bytes) × Has (take n xs) y × (same_key (get_or xs n d) y ≡ true)) → ⊥
    there r =
        let p : (j : ℕ) × (slice_get (take n xs) j ≡ Some r.0) = place_of (take n xs) r.0 r.1 in
        let short : p.0 < length (take n xs) = slice_get_within (take n xs) p.0 r.0 p.1 in
        let long : length (take n xs) ≤ n = omega (arith, length-take n xs) in
        let here : slice_get xs p.0 ≡ Some r.0 = get_front (take n xs) xs p.0 r.0 (front_take n xs) p.1 in
        let is : get_or xs p.0 d ≡ r.0 = get_or_from_slice_get xs p.0 r.0 d here in
        distinct_places xs p.0 n d once (omega arith) lt (λ same. let eq : p.0 ≡ n = same in omega arith) (is ∙ sym (key_of_test (get_or xs n d) r.0 r.2))

-- one more name is indexed

pub index_more : (sessions : List Session) (n : ℕ) (keys new : List Bytes) (name : Bytes) (d : Session) → Distinct (map (λ s. s.name) sessions) → n < length sessions
    → keys ≡ map (λ s. s.name) (take n sessions) → name ≡ (get_or sessions n d).name → new ≡ cond (list_any (same_key name) keys) keys (keys ++ name ∷ [])
    → new ≡ map (λ s. s.name) (take (n + 1) sessions)
index_more sessions n keys new name d once lt same named is =
    let at : get_or (map (λ s. s.name) sessions) n d.name ≡ name = get_or-map (λ s. s.name) sessions n d ∙ sym named in
    let fresh : list_any (same_key name) keys ≡ false = subst (λ l. list_any (same_key name) l ≡ false) (sym (same ∙ sym (take-map (λ s. s.name) n sessions)))
    (subst (λ x. list_any (same_key x) (take n (map (λ s. s.name) sessions)) ≡ false) at (name_new (map (λ s. s.name) sessions) n d.name once (subst (λ m. n < m) (sym (length-map sessions (λ s. s.name))) lt))) in
    is ∙ rw fresh (ap₂ (λ l x. l ++ x ∷ []) same named ∙ sym (map_push (λ s. s.name) (take n sessions) (get_or sessions n d)) ∙ ap (map (λ s. s.name)) (sym (take_more sessions n d lt)))
