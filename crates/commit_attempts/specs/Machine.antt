-- Where the attempts stand: the next call, what the entries still to come have to be, and how they end.
use Rattle.std.specs.Prelude.{◌≡◌, ℕ, suc, ◌+◌, ◌*◌, List, [], ◌∷◌, ◌++◌, Option, Some, None, Bool, true, false, Result}
use Rattle.edge_api.specs.declared.call.Call.{Call}
use Rattle.edge_api.specs.declared.call.Call.TheVariants.{Get, PutNew, Put, List as ListNames, Delete, Now, Wait}
use Rattle.edge_api.specs.declared.call.Tag.{Tag}
use Rattle.edge_api.specs.declared.call.Answer.{Answer}
use Rattle.log_actions.specs.declared.action.Action.{Action}
use Rattle.call_phases.specs.Phases.{Entries}
use Rattle.call_phases.specs.Ending.{Ending}
use Rattle.commit_attempts.specs.Attempts.{Terms, AtWinner, AtReadBack, AtCommitPut, IsOpenAt, FailsBy, LandsBy, AttemptsEnd}
use Rattle.commit_attempts.specs.declared.judge.BodyFault.{BodyFault}
use Rattle.commit_attempts.specs.declared.judge.JudgeFault.{JudgeFault}
use Rattle.commit_attempts.specs.declared.judge.Verdict.{Verdict}
use Rattle.commit_attempts.specs.declared.fault.Lost.{Lost}
use Rattle.commit_attempts.specs.declared.fault.Won.{Won}
use Rattle.commit_attempts.specs.declared.progress.Progress.{Progress}
use Rattle.commit_attempts.specs.declared.stage.Stage.{Stage}
use Rattle.commit_attempts.specs.declared.stage.Stage.TheVariants as stage
use Rattle.commit_attempts.specs.declared.attempts.Attempts.{Attempts}

-- the version of the first attempt, by the read version
abbrev pub first_after : Option ℕ → ℕ
first_after None = 0
first_after (Some read) = read + 1

-- what the attempts were told
abbrev pub terms_of : Progress → Terms
terms_of p = record { start = p.start; retention = p.retention; first = p.first }

-- the call of a stage
abbrev pub call_at : {C : Type 0} → Stage C → Option Call
call_at (stage.Clock r) = Some Now
call_at (stage.Put p) = Some (PutNew p.commit.name p.text)
call_at (stage.ReadBack p) = Some (Get p.commit.name)
call_at (stage.Winner c) = Some (Get c.name)
call_at (stage.Landed version now) = None
call_at (stage.Failed f) = None

-- the next call
abbrev pub call_of : {J C : Type 0} → Attempts J C → Option Call
call_of a = call_at a.stage

-- the next call is made ready, or there is none
abbrev pub IsReady : {J C : Type 0} → Attempts J C → Type 0
IsReady a = a.call ≡ call_of a

-- whether a call is the put of a free name, as a commit's is
abbrev pub is_put_new : Call → Bool
is_put_new (PutNew name body) = true
is_put_new (Get name) = false
is_put_new (Put name body) = false
is_put_new (ListNames prefix) = false
is_put_new (Delete name) = false
is_put_new Now = false
is_put_new (Wait time) = false

abbrev pub is_put : Option Call → Bool
is_put (Some call) = is_put_new call
is_put None = false

-- how many answers may come: three for each attempt, and none where nothing is called any more
abbrev pub left_at : {C : Type 0} → Progress → Stage C → ℕ
left_at p (stage.Clock r) = 3 * p.left + 3
left_at p (stage.Put put) = 3 * p.left + 2
left_at p (stage.ReadBack put) = 3 * p.left + 1
left_at p (stage.Winner c) = 3 * p.left + 1
left_at p (stage.Landed version now) = 0
left_at p (stage.Failed f) = 0

abbrev pub left_of : {J C : Type 0} → Attempts J C → ℕ
left_of a = left_at a.progress a.stage

-- the attempt landed
abbrev pub EndLanded : {J C : Type 0} → Progress → List (List Action) → ℕ → ℕ → Ending (Lost J C) (Won J) → J → Entries → Type 0
EndLanded p winners version now o j es = LandsBy o j (record { version = version; attempts = suc p.lost; now = now; winners = winners }) es

module _ {J C : Type 0} (bodies : J → ℕ → Result (List ℕ) BodyFault → J → Type 0) (judges : J → List Action → Result (Verdict C) JudgeFault → J → Type 0) where
  -- the attempts that may follow one that was lost to this winner
  abbrev pub EndAfter : Progress → List (List Action) → Ending (Lost J C) (Won J) → List Action → J → Entries → Type 0
  EndAfter p winners o winner j es = AttemptsEnd bodies judges (terms_of p) p.left (suc p.lost) (winners ++ winner ∷ []) j es o

  -- by the stage
  abbrev pub RestAt : Progress → List (List Action) → J → Stage C → Entries → Ending (Lost J C) (Won J) → Type 0
  RestAt p winners j (stage.Clock r) es o = AttemptsEnd bodies judges (terms_of p) (suc p.left) p.lost winners j es o
  RestAt p winners j (stage.Put put) es o =
      AtCommitPut bodies judges (terms_of p) (IsOpenAt o) (FailsBy o) (LandsBy o) put.commit.version j put.text
      (λ rest. EndLanded p winners put.commit.version put.now o j rest) (EndAfter p winners o) es
  RestAt p winners j (stage.ReadBack put) es o =
      AtReadBack bodies judges (terms_of p) (IsOpenAt o) (FailsBy o) (LandsBy o) put.commit.version j put.text
      (λ rest. EndLanded p winners put.commit.version put.now o j rest) (EndAfter p winners o) es
  RestAt p winners j (stage.Winner c) es o = AtWinner bodies judges (terms_of p) (IsOpenAt o) (FailsBy o) (LandsBy o) c.version j (EndAfter p winners o) es
  RestAt p winners j (stage.Landed version now) es o = EndLanded p winners version now o j es
  RestAt p winners j (stage.Failed f) es o = FailsBy o j f es

  -- what the entries still to come have to be, and how they end, at a stage of its own
  abbrev pub RestBy : Attempts J C → Stage C → Entries → Ending (Lost J C) (Won J) → Type 0
  RestBy a s es o = RestAt a.progress a.winners.items a.judge s es o

  -- what the entries still to come have to be, and how they end
  abbrev pub RestOf : Attempts J C → Entries → Ending (Lost J C) (Won J) → Type 0
  RestOf a es o = RestBy a a.stage es o

  -- what may come at the new stage may come after a call with this answer at the old one
  abbrev pub Leads : Attempts J C → Stage C → Call → Answer → Attempts J C → Stage C → Type 0
  Leads old s call answer new t = (tag : Tag) (es : Entries) (o : Ending (Lost J C) (Won J)) → RestBy new t es o → RestBy old s (record { tag = tag; call = call; answer = answer } ∷ es) o
