-- What the pool holds beside a board on the way to the last one, and that messages meet a chord for the one just as
-- for the other.
use mathlib.Core.Path.{◌≡◌, ap, ◌∙◌, sym, subst}
use mathlib.Core.Bool.{true}
use mathlib.Core.List.{map, List}
use Prim.Native.Nat.{ℕ, ◌<◌}
use lib.IntN.{◌+ℤ◌}
use lib.ListN.{length, length-map, get_or, get_or-map}
use native.Mathlib.Omega.{arith}
use Rattle.model.specs.Basics.{is_in}
use Rattle.model.specs.Tables.{Table, chord_at}
use Rattle.model.specs.Boards.{Board, Sent, message_at, sender_at, no_sent, no_message}
use Rattle.model.specs.Looks.{alike}
use Rattle.model.specs.Pools.{Pool, own_of, distinct, cents_added, pool_cents, sent_at, meets, channels_meet}
use Rattle.model.proofs.Tests.{and, both}
use Rattle.model.proofs.Lists.{nth-every, every-nth}
use Rattle.model.proofs.Local.{Full, Selection}
use Rattle.model.proofs.Choice.{alike-via}
use Rattle.model.proofs.Matches.{Unmatched}
use Rattle.model.proofs.Obligation.{Meets}
use Rattle.model.proofs.PoolLaws.{one-distinct, channels-true, true-channels, distinct-one}
use Rattle.model.proofs.Cents.{cents_in}

abbrev pub sent_of : Board → ℕ → Sent
sent_of b n = (message_at b n).sent

pub record PoolOk (t : Table) (last b : Board) (p : Pool) : Type 0 where
  pub sents : p.sent ≡ map (λ x. x.sent) b.messages
  pub own_count : length p.own ≡ 32
  pub owns : (i : ℕ) → (sender_at b i).own ≡ own_of p i
  pub inside_is : (n : ℕ) → is_in n p.inside ≡ true → (n < length b.messages) × Unmatched b n
  pub is_inside : (n : ℕ) → n < length b.messages → Unmatched b n → is_in n p.inside ≡ true
  pub number : p.matches ≡ length b.matches
  pub good : p.good ≡ true
  pub once_in : distinct p.inside ≡ true
  pub total : cents_added t p.sent ≡ cents_in t (sent_of last) b.matches +ℤ pool_cents t (sent_of last) p.inside

module _ (t : Table) (last b : Board) (p : Pool) (ok : PoolOk t last b p) where
  pub count : length p.sent ≡ length b.messages
  count = ap length ok.sents ∙ length-map b.messages (λ x. x.sent)

  pub as_sent : (n : ℕ) → sent_of b n ≡ sent_at p.sent n
  as_sent n =
      sym (ap (λ (xs : List Sent). get_or xs n no_sent) ok.sents
      ∙ get_or-map (λ x. x.sent) b.messages n no_message)

  -- a full selection meets its chord, as the pool tests it
  pub full_meets : (h r : ℕ) (c : List ℕ) → Full t b h r c → meets (chord_at t r) (sent_at p.sent) c ≡ true
  unfolding meets
  full_meets h r c f =
      and (one-distinct c s.one)
      (and (channels-true (sent_at p.sent) (chord_at t r).channels c f.all (λ j l.
      sym (ap (λ (x : Sent). x.channel) (as_sent (get_or c j 0))) ∙ s.kinds j l))
      (nth-every _ c 0 (λ j l. alike-via (chord_at t r) (sent_of b h) _ _ (like 0 (first j l)) (like j l))))
    where
      s : Selection t b h r c
      s = f.selection

      first : (j : ℕ) → j < length c → 0 < length c
      first j l = omega arith

      like : (j : ℕ) → j < length c → alike (chord_at t r) (sent_of b h) (sent_at p.sent (get_or c j 0)) ≡ true
      like j l = subst (λ (x : Sent). alike (chord_at t r) (sent_of b h) x ≡ true) (as_sent (get_or c j 0)) (s.props j l)

  -- and back
  pub meets-full : (r : ℕ) (ns : List ℕ) → r < length t.chords
      → ((j : ℕ) → j < length ns → get_or ns j 0 < length b.messages)
      → meets (chord_at t r) (sent_at p.sent) ns ≡ true → Meets t b r ns
  unfolding meets
  meets-full r ns l ins e =
      let x = both {t = distinct ns} e in
      let y = both {t = channels_meet (sent_at p.sent) (chord_at t r).channels ns} x.1 in
      let z = true-channels (sent_at p.sent) (chord_at t r).channels ns y.0 in
      record {
        chord-in = l;
        inside = ins;
        all = z.0;
        kinds = λ j q. ap (λ (x : Sent). x.channel) (as_sent (get_or ns j 0)) ∙ z.1 j q;
        props = λ i j q s. rw (as_sent (get_or ns i 0), as_sent (get_or ns j 0))
            (alike-via (chord_at t r) _ _ _ (every-nth _ ns 0 y.1 i q) (every-nth _ ns 0 y.1 j s));
        one = distinct-one ns x.0;
      }
