-- The generated load is valid: its cluster is one, and its workload is one of this cluster.
use Rattle.std.proofs.Common.{◌≡◌, ℕ, zero, suc, ◌+◌, ◌%◌, ◌<◌, ◌≤◌, Bool, true, false, cond, ◌==◌, []}
use Rattle.std.proofs.Common.{◌∷◌, length, map, refl, sym, ap, ◌∙◌, inr, subst, arith, append-nil, add-one, FitsSigned, w64, pos}
use Rattle.std.specs.List.{count_by, range_with_len, sum_by}
use Rattle.std.proofs.lemmas.List.{length-append}
use Rattle.std.proofs.lemmas.List.Sums.{count_by-le-length}
use Rattle.dt_lists.specs.Lists.{AllIn, EachThen}
use Rattle.dt_lists.proofs.Callers.{all_image, all_put, each_image, each_of_image, sum_mapped, sum_of_sums, sum_same}
use Rattle.dt_text.specs.Texts.{Bytes, IsKey}
use Rattle.dt_text.specs.declared.Value.{Value}
use Rattle.dt_proc.specs.Builtin.{xfer}
use Rattle.dt_proc.proofs.Callers.{builtin_sound}
use Rattle.dt_text.specs.Values.{IsRowValue}
use Rattle.dt_cluster.specs.Valid.{IsValidCluster}
use Rattle.dt_workload.specs.Valid.{calls_in, IsValidSession, IsValidWorkload, RankedFits, WantedFits}
use Rattle.dt_workload.specs.declared.workload.Wanted.TheVariants.{Move}
use Rattle.dt_workload.specs.declared.Session.{Session}
use Rattle.dt_gen.specs.Load.{account, account_numbers, account_row, load_call, load_calls, load_cluster, load_session, load_workload, session_name, session_numbers, wanted_by, transfer_call}
use Rattle.dt_gen.proofs.Ranges.{all_in_row, distinct_row, once_in_row}
use Rattle.dt_gen.proofs.AccountKeys.{account_apart, account_key, session_apart, session_name_is}
use Rattle.dt_gen.proofs.OneCallMore.{calls_more, sessions_length}

-- what holds of each number of an account
pub all_accounts : (P : ℕ → Type 0) → ((q : ℕ) → q < 100 → P q) → AllIn P account_numbers
unfolding account_numbers
all_accounts P each = all_in_row P 0 100 (λ q low high. each q (omega arith))

pub accounts_apart : EachThen (λ p q. ¬ (account p ≡ account q)) account_numbers
unfolding account_numbers
accounts_apart = each_of_image (λ (x y : Bytes). ¬ (x ≡ y)) account (range_with_len 0 100) (distinct_row account 0 100 (λ p q low below high same. absurd (let is : p ≡ q = account_apart p q same in omega (arith, is))))

pub load_cluster_valid : IsValidCluster load_cluster
load_cluster_valid = record {
  some_version = omega arith;
  known_version = omega arith;
  some = omega arith;
  few = omega arith;
  some_worker = omega arith;
  few_workers = omega arith;
  tries = omega arith;
  few_tries = omega arith;
  drop = inr (omega arith, omega arith);
  repeat = omega arith;
  procs = builtin_sound;
  home_keys = tt;
  home_units = tt;
  homes_once = tt;
  homes = tt;
  row_keys = all_image (λ r. IsKey r.0) account_row account_numbers (all_accounts (λ q. IsKey (account q)) (λ q h. (account_key q h).0));
  rows_once = each_image (λ (x y : Bytes). ¬ (x ≡ y)) (λ (r : Bytes × Value). r.0) (map account_row account_numbers) (each_image (λ (x y : Bytes × Value). ¬ (x.0 ≡ y.0)) account_row account_numbers accounts_apart);
  rows = all_image (λ (r : Bytes × Value). IsRowValue r.1) account_row account_numbers (all_accounts (λ q. FitsSigned w64 (pos 1000)) (λ q h. record { sfits = omega arith }));
}

-- a transfer between accounts can be called
transfer_fits : (source target amount : ℕ) → source < 100 → target < 100 → WantedFits load_cluster (transfer_call source target amount)
transfer_fits source target amount hs ht = record {
  body = xfer;
  named = refl;
  sound = builtin_sound.sound.1.1.1.1.1.1.1.0;
  fits = (tt, (tt, (tt, tt)));
  keys = (subst IsKey (sym (append-nil (account source))) (account_key source hs).0, (subst IsKey (sym (append-nil (account target))) (account_key target ht).0, tt));
}

-- what a call wants fits
wanted_fits : (i u v w : ℕ) → WantedFits load_cluster (wanted_by i u v w)
wanted_fits i u v w = by (i % 50 == 49)
  where
    by : (b : Bool) → WantedFits load_cluster (cond b (Move (account (u % 100)) (v % 4)) (transfer_call (u % 100) (v % 100) (w % 50 + 1)))
    by true = (((account_key (u % 100) (omega arith)).0, refl), omega arith)
    by false = transfer_fits (u % 100) (v % 100) (w % 50 + 1) (omega arith) (omega arith)

load_call_fits : (i : ℕ) → RankedFits load_cluster (load_call i)
load_call_fits i = (omega arith, wanted_fits i _ _ _)

-- each call is in one session
one_turn : (n : ℕ) → count_by (λ j. n % 64 == j) session_numbers ≡ 1
unfolding session_numbers
one_turn n = once_in_row (n % 64) 0 64 (omega arith) (omega arith)

-- one call more in all is one call more of one session
sessions_more : (n : ℕ) → sum_by (λ j. length (load_calls (n + 1) j)) session_numbers ≡ sum_by (λ j. length (load_calls n j)) session_numbers + 1
sessions_more n =
    let had : ℕ → ℕ = λ j. length (load_calls n j) in
    let gets : ℕ → ℕ = λ j. cond (n % 64 == j) 1 0 in
    let same = sum_same (λ j. length (load_calls (n + 1) j)) (λ j. had j + gets j) session_numbers (λ j there. each j) in
    let parted = sum_of_sums (λ n. had n + gets n) had gets session_numbers (λ n h. refl) in
    omega (arith, same, parted, one_turn n)
  where
    at : (b : Bool) → length (cond b (load_call n ∷ []) []) ≡ cond b 1 0
    at true = refl
    at false = refl

    each : (j : ℕ) → length (load_calls (n + 1) j) ≡ length (load_calls n j) + cond (n % 64 == j) 1 0
    each j =
        ap length (calls_more n j) ∙ length-append (load_calls n j) (cond (n % 64 == j) (load_call n ∷ []) [])
        ∙ ap (λ k. length (load_calls n j) + k) (at (n % 64 == j))

-- so all sessions together have as many calls as there are
sessions_have : (n : ℕ) → sum_by (λ j. length (load_calls n j)) session_numbers ≡ n
unfolding session_numbers
sessions_have zero = omega arith
sessions_have (suc n) = subst (λ m. sum_by (λ j. length (load_calls m j)) session_numbers ≡ m) (add-one n) (let before = sessions_have n in let more = sessions_more n in omega (arith, before, more))

pub sessions_apart : EachThen (λ i j. ¬ (session_name i ≡ session_name j)) session_numbers
unfolding session_numbers
sessions_apart = each_of_image (λ (x y : Bytes). ¬ (x ≡ y)) session_name (range_with_len 0 64) (distinct_row session_name 0 64 (λ i j low below high same. absurd (let is : i ≡ j = session_apart i j same in omega (arith, is))))

all_sessions : (P : ℕ → Type 0) → ((j : ℕ) → j < 64 → P j) → AllIn P session_numbers
unfolding session_numbers
all_sessions P each = all_in_row P 0 64 (λ j low high. each j (omega arith))

session_valid : (n j : ℕ) → j < 64 → IsValidSession load_cluster (load_session n j)
session_valid n j h = record {
  name = session_name_is j h;
  region = omega arith;
  calls = all_image (RankedFits load_cluster) load_call _ (all_put _ _ (λ i _. load_call_fits i));
}

-- how many calls and moves the workload has
pub load_calls_in : (n : ℕ) → calls_in (load_workload n).sessions ≡ n
load_calls_in n = sum_mapped (λ (s : Session). length s.calls) (load_session n) session_numbers ∙ sessions_have n

pub load_workload_valid : (n : ℕ) → n ≤ 20000 → IsValidWorkload load_cluster (load_workload n)
load_workload_valid n few = record {
  names_once = each_image (λ (x y : Bytes). ¬ (x ≡ y)) (λ (s : Session). s.name) (map (load_session n) session_numbers) (each_image (λ (x y : Session). ¬ (x.name ≡ y.name)) (load_session n) session_numbers sessions_apart);
  sessions = all_image (IsValidSession load_cluster) (load_session n) session_numbers (all_sessions (λ j. IsValidSession load_cluster (load_session n j)) (session_valid n));
  few_sessions = λ region.
      let within = count_by-le-length (λ (s : Session). s.region == region) (map (load_session n) session_numbers) in
      omega (arith, within, sessions_length n);
  few_calls = omega (arith, load_calls_in n);
}
