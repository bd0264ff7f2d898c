-- Laws of messages walked by their columns: their tests, and the oldest that passes.
use mathlib.Core.Path.{◌≡◌, refl, sym, ap, ◌∙◌}
use mathlib.Core.Bool.{Bool, true, false, ◌&&◌, not, and-false}
use mathlib.Core.List.{List, []}
use Prim.Native.Nat.{ℕ, ◌-◌, ◌%◌, ◌^◌, ◌<◌, ◌≤◌}
use native.Mathlib.Omega.{arith}
use lib.Dec.{eqb}
use lib.ListN.{get_or}
use Rattle.model.specs.Basics.{is_in}
use Rattle.model.specs.Tables.{Chord}
use Rattle.model.specs.Boards.{Sent, Message, no_message, is_claimed}
use Rattle.model.specs.Looks.{alike, fits, is_free, oldest, some_claimed, day_at}
use Rattle.columns.specs.declared.Want as DW
use Rattle.columns.specs.Columns.{Columns, Others, message_in, messages_from, columns_by, board_by}
use Rattle.columns.specs.Firsts.{of_kind, is_like, fitting, unchosen, eligible, Wants}
use Rattle.columns.specs.Ranks.{day_in, no_rank, least_from}
use Rattle.columns.proofs.Ranks.{least_skip}
use Rattle.columns.proofs.Oldests.{least-oldest, least-found}
use Rattle.columns.proofs.Messages.{pending-is, claimed_is, nth-message}

pub chosen_is : (chosen : List ℕ) (k : ℕ) (u : Bool) → u ≡ is_in k chosen → unchosen chosen k ≡ not u
unfolding unchosen
chosen_is chosen k u e = rw e

module _ (channels keys units statuses : List ℕ) (want : DW.Want) (chosen : List ℕ) where
  -- one that does not fit is not eligible
  pub unfit : (k : ℕ) → fitting channels keys units statuses want k ≡ false
      → eligible channels keys units statuses want chosen k ≡ false
  unfolding eligible
  unfit k e = rw e

  -- nor is one of another channel or status
  pub other-kind : (k : ℕ) → of_kind channels statuses want.channel want.status k ≡ false
      → eligible channels keys units statuses want chosen k ≡ false
  unfolding eligible fitting
  other-kind k e = rw e

  -- nor one unlike what is wanted
  pub other-like : (k : ℕ) → is_like keys units want k ≡ false
      → eligible channels keys units statuses want chosen k ≡ false
  unfolding eligible fitting
  other-like k e = rw (e, and-false (of_kind channels statuses want.channel want.status k))

  -- one that fits is eligible where it is not chosen
  pub fitting-is : (k : ℕ) → of_kind channels statuses want.channel want.status k ≡ true
      → is_like keys units want k ≡ true → eligible channels keys units statuses want chosen k ≡ unchosen chosen k
  unfolding eligible fitting
  fitting-is k e f = rw (e, f)

  pub fitting-unchosen : (k : ℕ)
      → (fitting channels keys units statuses want k && unchosen chosen k)
      ≡ eligible channels keys units statuses want chosen k
  unfolding eligible
  fitting-unchosen k = refl

  -- messages of other channels or statuses are passed over
  pub kind-skip : (b i j n : ℕ) → i ≤ j → j ≤ n
      → ((k : ℕ) → i ≤ k → k < j → of_kind channels statuses want.channel want.status k ≡ false)
      → let q = eligible channels keys units statuses want chosen in
      least_from (day_in keys) q b i (n - i) ≡ least_from (day_in keys) q b j (n - j)
  kind-skip b i j n h l e = least_skip (day_in keys) _ b i j n h l (λ k m o. other-kind k (e k m o))

day-from : (m : Columns) (n k : ℕ) → k < n
    → day_in m.keys k ≡ (get_or (messages_from m 0 n) k no_message).sent.day
unfolding message_in
day-from m n k h = sym (ap (λ (x : Message). x.sent.day) (nth-message m n k h))

module _ (channels keys statuses : List ℕ) (o : Others) (n : ℕ) (want : DW.Want) (c : Chord) (s : Sent)
    (units : List ℕ) (e : o.units ≡ units) (q : Wants want c s) (l : n ≤ 1024)
    (days : (k : ℕ) → day_in keys k < 2 ^ 32) where
  abbrev m : Columns
  m = columns_by channels keys statuses o

  like_is : (k : ℕ) → alike c s (message_in m k).sent ≡ is_like keys units want k
  unfolding message_in alike is_like
  like_is k = rw (q.equal, q.property, q.unit, e)

  free-is : want.status ≡ 0 → (chosen : List ℕ) (k : ℕ)
      → is_free c want.channel s chosen k (message_in m k) ≡ eligible channels keys units statuses want chosen k
  unfolding message_in eligible fitting of_kind unchosen
  free-is z chosen k =
      let p = pending-is (get_or statuses k 0) ∙ ap (eqb (get_or statuses k 0)) (sym z) in
      rw (like_is k, p)
      (go (eqb (get_or channels k 0) want.channel) (is_like keys units want k) (eqb (get_or statuses k 0) want.status)
      (not (is_in k chosen)))
    where
      go : (a b d f : Bool) → ((a && b) && (d && f)) ≡ (((a && d) && b) && f)
      go false b d f = refl
      go true b false f = and-false b
      go true b true f = refl

  -- of the least rank of the pending ones the number
  pub oldest-is : want.status ≡ 0 → (chosen : List ℕ) (r : ℕ)
      → r ≡ least_from (day_in keys) (eligible channels keys units statuses want chosen) no_rank 0 n
      → r % 65536
      ≡ oldest (day_at (board_by channels keys statuses n o)) (is_free c want.channel s chosen) 0 (messages_from m 0 n)
  oldest-is z chosen r f =
      ap (λ x. x % 65536) f
      ∙ least-oldest (day_in keys) _ n (omega arith) days (message_in m) (is_free c want.channel s chosen)
      (free-is z chosen) (day_at (board_by channels keys statuses n o)) (day-from m n)

  claiming : want.status ≡ 1 → (k : ℕ)
      → (fits c want.channel s (message_in m k) && is_claimed (message_in m k).status)
      ≡ eligible channels keys units statuses want [] k
  unfolding message_in eligible fitting of_kind unchosen
  claiming z k =
      let p = claimed_is (get_or statuses k 0) ∙ ap (eqb (get_or statuses k 0)) (sym z) in
      rw (like_is k, p)
      (go (eqb (get_or channels k 0) want.channel) (is_like keys units want k) (eqb (get_or statuses k 0) want.status))
    where
      go : (a b d : Bool) → ((a && b) && d) ≡ (((a && d) && b) && true)
      go false b d = refl
      go true b false = and-false b
      go true b true = refl

  -- there is a least rank of the claimed ones
  pub some-claimed-is : want.status ≡ 1 → (r : ℕ)
      → r ≡ least_from (day_in keys) (eligible channels keys units statuses want []) no_rank 0 n
      → not (eqb r no_rank) ≡ some_claimed c want.channel s (messages_from m 0 n)
  unfolding some_claimed
  some-claimed-is z r f =
      ap (λ x. not (eqb x no_rank)) f
      ∙ least-found (day_in keys) _ n (omega arith) days (message_in m)
      (λ x. fits c want.channel s x && is_claimed x.status) (claiming z)
