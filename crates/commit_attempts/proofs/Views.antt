-- Attempts by a judge, told of what the judge stands for: a law names no struct of the program.
use Rattle.std.proofs.Common.{ℕ, zero, suc, ◌+◌, Bool, true, false, MatchBool, List, [], ◌∷◌, ◌++◌, Result, Ok, Err}
use Rattle.std.specs.Str.{bytes_eq}
use Rattle.std.proofs.lemmas.Result.{MatchResult-weaker}
use Rattle.table_rules.specs.Names.{commit_text}
use Rattle.log_actions.specs.declared.action.Action.{Action}
use Rattle.log_actions.specs.Commit.{actions_of}
use Rattle.call_phases.specs.Phases.{Entries}
use Rattle.call_phases.specs.Called.{called_now, called_put, called_get}
use Rattle.call_phases.proofs.Follow.{map_now, map_get, map_put_new}
use Rattle.call_phases.proofs.FollowLists.{map_either}
use Rattle.commit_attempts.specs.declared.judge.BodyFault.{BodyFault}
use Rattle.commit_attempts.specs.declared.judge.BodyFault.TheVariants as body_fault
use Rattle.commit_attempts.specs.declared.judge.JudgeFault.{JudgeFault}
use Rattle.commit_attempts.specs.declared.judge.Verdict.{Verdict}
use Rattle.commit_attempts.specs.declared.judge.Verdict.TheVariants as verdict
use Rattle.commit_attempts.specs.declared.fault.AttemptFault.{AttemptFault}
use Rattle.commit_attempts.specs.declared.fault.AttemptFault.TheVariants as fault
use Rattle.commit_attempts.specs.declared.fault.Landed.{Landed}
use Rattle.commit_attempts.specs.Faults.{fault_of_commit, fault_of_judge}
use Rattle.commit_attempts.specs.Attempts.{Terms, outlasts, OnBody, OnVerdict, JudgeSays, Judged, AtWinner, AtReadBack, AtCommitPut, Puts, AtAttempt}

map_bool : (b : Bool) (F G N M : Type 0) → (F → G) → (N → M) → MatchBool b F N → MatchBool b G M
map_bool true F G N M f n h = f h
map_bool false F G N M f n h = n h

on_body : (made : Result (List ℕ) BodyFault) (F G : Type 0) (K L : ℕ → Type 0) (N M : List ℕ → Type 0) → (F → G) → ((n : ℕ) → K n → L n) → ((text : List ℕ) → N text → M text) → OnBody made F K N → OnBody made G L M
on_body (Ok text) F G K L N M f k n h = n text h
on_body (Err body_fault.NoMemory) F G K L N M f k n h = f h
on_body (Err (body_fault.TooLarge bytes)) F G K L N M f k n h = k bytes h

on_verdict : {C : Type 0} (v : Verdict C) (F G : Type 0) (N M : C → Type 0) → (F → G) → ((c : C) → N c → M c) → OnVerdict v F N → OnVerdict v G M
on_verdict (verdict.Clear winner) F G N M f n h = f h
on_verdict (verdict.Clash c) F G N M f n h = n c h

module _ {J K C : Type 0} (view : J → K) (bodies : J → ℕ → Result (List ℕ) BodyFault → J → Type 0) (judges : J → List Action → Result (Verdict C) JudgeFault → J → Type 0) (told_bodies : K → ℕ → Result (List ℕ) BodyFault → K → Type 0) (told_judges : K → List Action → Result (Verdict C) JudgeFault → K → Type 0)
    (makes : (j : J) (now : ℕ) (made : Result (List ℕ) BodyFault) (new : J) → bodies j now made new → told_bodies (view j) now made (view new)) (says : (j : J) (winner : List Action) (r : Result (Verdict C) JudgeFault) (new : J) → judges j winner r new → told_judges (view j) winner r (view new)) (terms : Terms)
    (P : J → Type 0) (Q : K → Type 0) (F : J → AttemptFault C → Entries → Type 0) (G : K → AttemptFault C → Entries → Type 0) (L : J → Landed → Entries → Type 0) (M : K → Landed → Entries → Type 0)
    (p : (j : J) → P j → Q (view j)) (f : (j : J) (x : AttemptFault C) (es : Entries) → F j x es → G (view j) x es) (l : (j : J) (x : Landed) (es : Entries) → L j x es → M (view j) x es) where
  map_says : (version : ℕ) (j : J) (winner : List Action) (N : J → Entries → Type 0) (N' : K → Entries → Type 0) (es : Entries) → ((new : J) (rest : Entries) → N new rest → N' (view new) rest)
      → JudgeSays bodies judges terms P F L version j winner N es → JudgeSays told_bodies told_judges terms Q G M version (view j) winner N' es
  map_says version j winner N N' es n h = (
    h.0,
    view h.1,
    says j winner h.0 h.1 h.2,
    MatchResult-weaker h.0 h.3
        (λ v. on_verdict v _ _ (λ c. F h.1 (fault.Conflict version c) es) (λ c. G (view h.1) (fault.Conflict version c) es) (n h.1 es) (λ c. f h.1 (fault.Conflict version c) es))
        (λ x. f h.1 (fault_of_judge (commit_text version) x) es),
  )

  map_judged : (version : ℕ) (j : J) (body : List ℕ) (N : List Action → J → Entries → Type 0) (N' : List Action → K → Entries → Type 0) (es : Entries) → ((winner : List Action) (new : J) (rest : Entries) → N winner new rest → N' winner (view new) rest)
      → Judged bodies judges terms P F L version j body N es → Judged told_bodies told_judges terms Q G M version (view j) body N' es
  map_judged version j body N N' es n h =
      map_either (f j fault.NoMemory es)
      (λ read. MatchResult-weaker (actions_of body) read (λ winner. map_says version j winner (N winner) (N' winner) es (n winner)) (λ x. f j (fault_of_commit (commit_text version) x) es)) h

  map_winner : (version : ℕ) (j : J) (N : List Action → J → Entries → Type 0) (N' : List Action → K → Entries → Type 0) (es : Entries) → ((winner : List Action) (new : J) (rest : Entries) → N winner new rest → N' winner (view new) rest)
      → AtWinner bodies judges terms P F L version j N es → AtWinner told_bodies told_judges terms Q G M version (view j) N' es
  map_winner version j N N' es n h =
      map_get (p j) (commit_text version) (λ rest. F j (fault.Fault (called_get (commit_text version))) rest) (λ rest. G (view j) (fault.Fault (called_get (commit_text version))) rest)
      (λ rest. F j (fault.LogGone (commit_text version)) rest) (λ rest. G (view j) (fault.LogGone (commit_text version)) rest)
      (λ body rest. Judged bodies judges terms P F L version j body N rest) (λ body rest. Judged told_bodies told_judges terms Q G M version (view j) body N' rest) es
      (f j (fault.Fault (called_get (commit_text version)))) (f j (fault.LogGone (commit_text version))) (λ body rest. map_judged version j body N N' rest n) h

  map_found : (same : Bool) (version : ℕ) (j : J) (found : List ℕ) (S S' : Entries → Type 0) (N : List Action → J → Entries → Type 0) (N' : List Action → K → Entries → Type 0) (rest : Entries) → ((rest : Entries) → S rest → S' rest)
      → ((winner : List Action) (new : J) (rest : Entries) → N winner new rest → N' winner (view new) rest)
      → MatchBool same (S rest) (Judged bodies judges terms P F L version j found N rest) → MatchBool same (S' rest) (Judged told_bodies told_judges terms Q G M version (view j) found N' rest)
  map_found same version j found S S' N N' rest s n h = map_bool same _ _ _ _ (s rest) (map_judged version j found N N' rest n) h

  map_read_back : (version : ℕ) (j : J) (text : List ℕ) (S S' : Entries → Type 0) (N : List Action → J → Entries → Type 0) (N' : List Action → K → Entries → Type 0) (es : Entries) → ((rest : Entries) → S rest → S' rest)
      → ((winner : List Action) (new : J) (rest : Entries) → N winner new rest → N' winner (view new) rest)
      → AtReadBack bodies judges terms P F L version j text S N es → AtReadBack told_bodies told_judges terms Q G M version (view j) text S' N' es
  map_read_back version j text S S' N N' es s n h =
      map_get (p j) (commit_text version) (λ rest. F j (fault.OutcomeUnknown version) rest) (λ rest. G (view j) (fault.OutcomeUnknown version) rest)
      (λ rest. F j (fault.Fault (called_put (commit_text version))) rest) (λ rest. G (view j) (fault.Fault (called_put (commit_text version))) rest)
      (λ found rest. MatchBool (bytes_eq found text) (S rest) (Judged bodies judges terms P F L version j found N rest))
      (λ found rest. MatchBool (bytes_eq found text) (S' rest) (Judged told_bodies told_judges terms Q G M version (view j) found N' rest)) es
      (f j (fault.OutcomeUnknown version)) (f j (fault.Fault (called_put (commit_text version))))
      (λ found rest. map_found (bytes_eq found text) version j found S S' N N' rest s n) h

  map_commit_put : (version : ℕ) (j : J) (text : List ℕ) (S S' : Entries → Type 0) (N : List Action → J → Entries → Type 0) (N' : List Action → K → Entries → Type 0) (es : Entries) → ((rest : Entries) → S rest → S' rest)
      → ((winner : List Action) (new : J) (rest : Entries) → N winner new rest → N' winner (view new) rest)
      → AtCommitPut bodies judges terms P F L version j text S N es → AtCommitPut told_bodies told_judges terms Q G M version (view j) text S' N' es
  map_commit_put version j text S S' N N' es s n h =
      map_put_new (p j) (commit_text version) text (λ rest. AtReadBack bodies judges terms P F L version j text S N rest) (λ rest. AtReadBack told_bodies told_judges terms Q G M version (view j) text S' N' rest) S S'
      (λ rest. AtWinner bodies judges terms P F L version j N rest) (λ rest. AtWinner told_bodies told_judges terms Q G M version (view j) N' rest) es
      (λ rest. map_read_back version j text S S' N N' rest s n) s (λ rest. map_winner version j N N' rest n) h

  map_puts : (version now : ℕ) (j : J) (S : J → Entries → Type 0) (S' : K → Entries → Type 0) (N : List Action → J → Entries → Type 0) (N' : List Action → K → Entries → Type 0) (es : Entries) → ((new : J) (rest : Entries) → S new rest → S' (view new) rest)
      → ((winner : List Action) (new : J) (rest : Entries) → N winner new rest → N' winner (view new) rest)
      → Puts bodies judges terms P F L version now j S N es → Puts told_bodies told_judges terms Q G M version now (view j) S' N' es
  map_puts version now j S S' N N' es s n h = (
    h.0,
    view h.1,
    makes j now h.0 h.1 h.2,
    on_body h.0 _ _ (λ bytes. F h.1 (fault.TooLarge bytes) es) (λ bytes. G (view h.1) (fault.TooLarge bytes) es)
        (λ text. AtCommitPut bodies judges terms P F L version h.1 text (S h.1) N es) (λ text. AtCommitPut told_bodies told_judges terms Q G M version (view h.1) text (S' (view h.1)) N' es)
        (f h.1 fault.NoMemory es) (λ bytes. f h.1 (fault.TooLarge bytes) es) (λ text. map_commit_put version h.1 text (S h.1) (S' (view h.1)) N N' es (s h.1) n) h.3,
  )

  map_in_time : (late : Bool) (version now : ℕ) (j : J) (S : J → Entries → Type 0) (S' : K → Entries → Type 0) (N : List Action → J → Entries → Type 0) (N' : List Action → K → Entries → Type 0) (es : Entries) → ((new : J) (rest : Entries) → S new rest → S' (view new) rest)
      → ((winner : List Action) (new : J) (rest : Entries) → N winner new rest → N' winner (view new) rest)
      → MatchBool late (F j (fault.Outlasted terms.start now) es) (Puts bodies judges terms P F L version now j S N es)
      → MatchBool late (G (view j) (fault.Outlasted terms.start now) es) (Puts told_bodies told_judges terms Q G M version now (view j) S' N' es)
  map_in_time late version now j S S' N N' es s n h = map_bool late _ _ _ _ (f j (fault.Outlasted terms.start now) es) (map_puts version now j S S' N N' es s n) h

  pub attempts_view : (left lost : ℕ) (winners : List (List Action)) (j : J) (es : Entries) → AtAttempt bodies judges terms P F L left lost winners j es → AtAttempt told_bodies told_judges terms Q G M left lost winners (view j) es
  attempts_view zero lost winners j es h = f j (fault.TooManyAttempts lost) es h
  attempts_view (suc left) lost winners j es h =
      map_now (p j) (λ rest. F j (fault.Fault called_now) rest) (λ rest. G (view j) (fault.Fault called_now) rest) _ _ es (f j (fault.Fault called_now))
      (λ now rest. map_in_time (outlasts terms now) (terms.first + lost) now j _ _ (λ winner new. AtAttempt bodies judges terms P F L left (suc lost) (winners ++ winner ∷ []) new)
      (λ winner new. AtAttempt told_bodies told_judges terms Q G M left (suc lost) (winners ++ winner ∷ []) new) rest
      (λ new rest. l new (record { version = terms.first + lost; attempts = suc lost; now = now; winners = winners }) rest)
      (λ winner new rest. attempts_view left (suc lost) (winners ++ winner ∷ []) new rest)) h
