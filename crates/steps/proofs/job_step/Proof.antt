-- `steps::job_step` meets its contract: each phase has its step, and the facts of the sender are what that step asks.
use mathlib.Core.Path.{◌≡◌, refl, ap, sym, ◌∙◌}
use Prim.Native.Nat.{ℕ, ◌<◌, ◌≤◌}
use native.Mathlib.Omega.{arith}
use lib.ListN.{length, get_or}
use Rattle.model.specs.Tables.{Table, size}
use Rattle.model.specs.Boards.{Board, channel_of}
use Rattle.model.specs.Layout.{table_refusal, table_of}
use Rattle.model.specs.Effects.{Effect}
use Rattle.model.specs.Steps.{job_step}
use Rattle.model.proofs.AcceptedChords.{table-ok}
use Rattle.model.proofs.Chords.{wakes-first}
use Rattle.model.proofs.SoundFacts.{PlaceOk}
use Rattle.columns.specs.Columns.{Others, board_by}
use Rattle.state.specs.declared.Phase as DP
use Rattle.state.specs.declared.Phase.TheVariants as P
use Rattle.state.specs.Views.{phase_in, chosen_by, job_in, sender_in}
use Rattle.steps.proofs.MessageReads as R
use Rattle.steps.proofs.ReadyLaws as L
use borrow.Author.Rules.{rules}
use Rattle.steps.proofs.job_step.Statement.{statement}
use Rattle.steps.proofs.job_step.Tie as tie

-- the start of the function, from the read of the subject's channel and from the match on the phase
abbrev entry : tie.After-shared_slice_known-7-1 → tie.Start
entry c = c.before.before.before.before.before.before.before.before.before

abbrev start : tie.After-shared_slice_known-8-1 → tie.Start
start c = entry c.before

abbrev tab : tie.Start → Table
tab s = table_of s.args.table.now

abbrev members : tie.Start → ℕ
members s = size (tab s) s.args.d.job.chord

abbrev board : tie.Start → Others → Board
board s o = board_by s.args.channels.now s.args.keys.now s.args.statuses.now s.args.n o

-- the board of the sender's facts
abbrev ready : tie.Start → Board
ready s = board s s.requires.1.0.others

subject_in : (s : tie.Start) → s.args.d.job.subject < s.args.n
subject_in s = L.subject_in _ _ _ _ _ _ _ _ s.requires.1.0 s.requires.0.1

place : (s : tie.Start) (p : DP.Phase) → s.args.d.job.phase ≡ p
    → PlaceOk (tab s) (ready s) (job_in (tab s) s.args.d.job) (phase_in p)
place s p e = L.place _ _ _ _ _ _ _ _ s.requires.1.0 s.requires.0.1 p e

-- a message is chosen for each member
all : (s : tie.Start) (p : DP.Phase) → s.args.d.job.phase ≡ p → chosen_by p (members s) ≡ members s
    → chosen_by s.args.d.job.phase (members s) ≡ members s
all s p e q = ap (λ (x : DP.Phase). chosen_by x (members s)) e ∙ q

few : (s : tie.Start) → s.args.d.job.chord < length (tab s).chords → members s ≤ 8
few s h = (table-ok s.args.table.now s.requires.0.0).chord_few s.args.d.job.chord h

-- what the own message and the waker are read by
sees-asks : (s : tie.Start)
    → let a = s.args in
    ((table_refusal a.table.now ≡ 0) × (1 ≤ a.n) × (a.d.own ≤ a.n) × (a.d.waker ≤ a.n))
    × (((a.n ≤ length a.channels.now) × (a.n ≤ length a.statuses.now))
    × ((i : ℕ) → i < a.n → get_or a.channels.now i 0 < length (tab s).kinds))
sees-asks s =
    let r = s.requires.1.0 in
    let h = subject_in s in (
      (s.requires.0.0, omega arith, L.own_in _ _ _ _ _ _ _ _ r, L.waker_in _ _ _ _ _ _ _ _ r),
      ((L.channels-in _ _ _ _ _ _ _ _ r, L.statuses-in _ _ _ _ _ _ _ _ r), r.known),
    )

-- the step of the phase is the step of the job
step_is : (s : tie.Start) (o : Others) (p : DP.Phase) {x : Effect} → s.args.d.job.phase ≡ p
    → x ≡ job_step (tab s) (board s o) (sender_in (tab s) s.args.d) (job_in (tab s) s.args.d.job) (phase_in p)
    → x ≡ job_step (tab s) (board s o) (sender_in (tab s) s.args.d) (job_in (tab s) s.args.d.job)
    (phase_in s.args.d.job.phase)
step_is s o p e q = L.step_is (tab s) (board s o) s.args.d p _ e q

-- the subject's channel
channel_is : (s : tie.Start) (o : Others)
    → channel_of (board s o) s.args.d.job.subject ≡ get_or s.args.channels.now s.args.d.job.subject 0
channel_is s o = R.channel-read _ _ _ o _ _ (subject_in s)

shared-slice-read-channel : tie.Need-bounds-channels-at
shared-slice-read-channel c =
    let s = c.before.before.before.before.before.before.before.before.before in
    let h = subject_in s in
    omega (arith, L.channels-in _ _ _ _ _ _ _ _ s.requires.1.0)

shared-slice-read-opened : tie.Need-bounds-statuses-at
shared-slice-read-opened c =
    let s = entry c.before in
    let h = subject_in s in
    omega (arith, L.statuses-in _ _ _ _ _ _ _ _ s.requires.1.0)

look-step-requires : tie.Need-look_step-requires
look-step-requires c κs =
    let q = c in
    let s = start q.before in
    let g = q.in-Look in
    let p = place s (P.Look g.k) g.is in
    ((s.requires.0.0, p.0.chord-in), ((g.is, p.1), ((subject_in s, s.requires.1.0.lent), s.requires.1.1)))

returns : tie.Need-returns-in-Look
returns c =
    let q = c.before in
    let s = start q.before in
    let g = q.in-Look in
    λ o em eb eu. step_is s o (P.Look g.k) g.is
    (c.look_step.ensures o eu)

is-pending-requires : tie.Need-is_pending-requires
is-pending-requires c κs =
    let q = c in
    let s = start q.before in
    let g = q.in-Claim in
    let p = place s (P.Claim g.k) g.is in
    let l = few s p.0.chord-in in
    let h = L.chosen_in _ _ _ _ _ _ _ _ s.requires.1.0 s.requires.0.1 (all s (P.Claim g.k) g.is refl) p.0
    g.k p.1 in
    (omega (arith, p.1), omega (arith, L.statuses-in _ _ _ _ _ _ _ _ s.requires.1.0))

claim-step-requires : tie.Need-claim_step-requires
claim-step-requires c κs =
    let q = c.before in
    let s = start q.before in
    let g = q.in-Claim in
    let p = place s (P.Claim g.k) g.is in
    ((s.requires.0.0, p.0.chord-in), ((g.is, p.1), (s.requires.1.0.known _ (subject_in s), s.requires.1.0.few)))

returns-2 : tie.Need-returns-in-Claim
returns-2 c =
    let q = c.before.before in
    let s = start q.before in
    let g = q.in-Claim in
    λ o em eb eu. step_is s o (P.Claim g.k) g.is
    (c.claim_step.ensures (board s o) (channel_is s o)
    (L.pending-chosen _ _ _ _ _ _ _ _ s.requires.1.0 s.requires.0.1 (all s (P.Claim g.k) g.is refl)
    (place s (P.Claim g.k) g.is).0 o g.k (place s (P.Claim g.k) g.is).1
    ∙ sym c.is_pending.ensures) em)

revert-step-requires : tie.Need-revert_step-requires
revert-step-requires c κs =
    let q = c in
    let s = start q.before in
    let g = q.in-Revert in
    let p = place s (P.Revert g.k g.m) g.is in
    ((s.requires.0.0, p.0.chord-in), (g.is, omega (arith, p.1, p.2)))

returns-3 : tie.Need-returns-in-Revert
returns-3 c =
    let q = c.before in
    let s = start q.before in
    let g = q.in-Revert in
    λ o em eb eu. step_is s o (P.Revert g.k g.m) g.is
    (c.revert_step.ensures (board s o) (channel_is s o))

sees-requires : tie.Need-sees-v-requires
sees-requires c κs = sees-asks (start c.before)

consume-step-requires : tie.Need-consume_step-requires
consume-step-requires c κs =
    let q = c.before in
    let s = start q.before in
    let g = q.in-Consume in
    let p = place s (P.Consume g.k g.m) g.is in (
      (s.requires.0.0, p.0.chord-in),
      (
        g.is,
        p.1,
        L.held _ _ _ _ _ _ _ _ s.requires.1.0 s.requires.0.1
            (all s (P.Consume g.k g.m) g.is refl) p.0,
      ),
    )

returns-4 : tie.Need-returns-in-Consume
returns-4 c =
    let v = c.before in
    let q = v.before in
    let s = start q.before in
    let g = q.in-Consume in
    let saw = v.sees-v.ensures s.args.keys.now in
    λ o em eb eu. step_is s o (P.Consume g.k g.m) g.is
    (c.consume_step.ensures s.args.keys.now s.args.statuses.now o
    (saw o).sync_is (saw o).channel_is (saw o).consumed_is)

sees-requires-2 : tie.Need-sees-v-requires-in-Tell
sees-requires-2 c κs = sees-asks (start c.before)

tell-step-requires : tie.Need-tell_step-requires
tell-step-requires c κs =
    let q = c.before in
    let s = start q.before in
    let g = q.in-Tell in
    let p = place s (P.Tell g.k) g.is in
    let a = all s (P.Tell g.k) g.is refl in (
      (s.requires.0.0, p.0.chord-in),
      (
        g.is,
        L.held _ _ _ _ _ _ _ _ s.requires.1.0 s.requires.0.1 a p.0,
        L.left _ _ _ _ _ _ _ _ s.requires.1.0 s.requires.0.1 a p.0 g.k p,
      ),
    )

returns-5 : tie.Need-returns-in-Tell
returns-5 c =
    let v = c.before in
    let q = v.before in
    let s = start q.before in
    let g = q.in-Tell in
    let saw = v.sees-v-in-Tell.ensures s.args.keys.now in
    λ o em eb eu. step_is s o (P.Tell g.k) g.is
    (c.tell_step.ensures s.args.keys.now s.args.statuses.now o
    (saw o).sync_is (saw o).channel_is (saw o).consumed_is)

wake-step-requires : tie.Need-wake_step-requires
wake-step-requires c κs =
    let s = start c.before in
    let g = c.in-Wake in
    let p = place s P.Wake g.is in
    let f = (wakes-first (tab s) s.args.d.job.chord (channel_of (ready s) s.args.d.job.subject) p.1).0 in
    ((s.requires.0.0, p.0.chord-in), (g.is, f))

returns-6 : tie.Need-returns-in-Wake
returns-6 c =
    let q = c.before in
    let s = start q.before in
    let g = q.in-Wake in
    λ o em eb eu. step_is s o P.Wake g.is
    (c.wake_step.ensures (board s o))

free-step-requires : tie.Need-free_step-requires
free-step-requires c κs =
    let q = c in
    let s = start q.before in
    let g = q.in-Free in
    let p = place s (P.Free g.k) g.is in
    let f = (wakes-first (tab s) s.args.d.job.chord (channel_of (ready s) s.args.d.job.subject) p.1).0 in
    ((s.requires.0.0, p.0.chord-in), (g.is, omega (arith, p.2), f))

returns-7 : tie.Need-returns-in-Free
returns-7 c =
    let q = c.before in
    let s = start q.before in
    let g = q.in-Free in
    λ o em eb eu. step_is s o (P.Free g.k) g.is
    (c.free_step.ensures (board s o))

sees-requires-3 : tie.Need-sees-v-requires-in-Signal
sees-requires-3 c κs = sees-asks (start c.before)

signal-step-requires : tie.Need-signal_step-requires
signal-step-requires c κs =
    let q = c.before in
    let s = start q.before in
    let g = q.in-Signal in
    let p = place s P.Signal g.is in
    let f = (wakes-first (tab s) s.args.d.job.chord (channel_of (ready s) s.args.d.job.subject) p.1).0 in
    ((s.requires.0.0, p.0.chord-in), (g.is, f))

returns-8 : tie.Need-returns-in-Signal
returns-8 c =
    let v = c.before in
    let q = v.before in
    let s = start q.before in
    let g = q.in-Signal in
    let saw = v.sees-v-in-Signal.ensures s.args.keys.now in
    λ o em eb eu. step_is s o P.Signal g.is
    (c.signal_step.ensures (board s o)
    (saw o).sync_is (saw o).channel_is (saw o).consumed_is)

sees-requires-4 : tie.Need-sees-v-requires-in-PassEnd
sees-requires-4 c κs = sees-asks (start c.before)

pass-end-requires : tie.Need-pass_end-requires
pass-end-requires c κs = let s = start c.before.before in (s.requires.0.0, s.requires.0.2)

returns-9 : tie.Need-returns-in-PassEnd
returns-9 c =
    let v = c.before in
    let q = v.before in
    let s = start q.before in
    let g = q.in-PassEnd in
    let saw = v.sees-v-in-PassEnd.ensures s.args.keys.now in
    λ o em eb eu. step_is s o P.PassEnd g.is
    (c.pass_end.ensures (board s o) eb (channel_is s o)
    (R.open-read _ _ _ o _ _ (subject_in s))
    (saw o).sync_is (saw o).channel_is (saw o).consumed_is)

returns-10 : tie.Need-returns-in-Backoff
returns-10 c =
    let q = c.before in
    let s = start q.before in
    let g = q.in-Backoff in
    λ o em eb eu. step_is s o (P.Backoff g.rests) g.is
    (c.backoff_step.ensures (board s o) (channel_is s o))

pub job_step_spec : {M : Type 1} → statement M
job_step_spec =
    tie.close
    (tie.spec
    (λ c. search rules)
    shared-slice-read-channel
    shared-slice-read-opened
    (λ c. search rules)
    look-step-requires
    (λ c. search rules)
    is-pending-requires
    claim-step-requires
    (λ c. search rules)
    revert-step-requires
    (λ c. search rules)
    sees-requires
    consume-step-requires
    (λ c. search rules)
    sees-requires-2
    tell-step-requires
    (λ c. search rules)
    wake-step-requires
    (λ c. search rules)
    free-step-requires
    (λ c. search rules)
    sees-requires-3
    signal-step-requires
    (λ c. search rules)
    sees-requires-4
    pass-end-requires
    (λ c. search rules)
    (λ c κs. search rules)
    returns
    returns-2
    returns-3
    returns-4
    returns-5
    returns-6
    returns-7
    returns-8
    returns-9
    returns-10)
