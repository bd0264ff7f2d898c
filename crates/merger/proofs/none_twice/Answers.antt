-- `merger::none_twice` meets its contract: a byte, from the last on, is named after it where it is marked.
use Rattle.std.proofs.Common.{◌≡◌, ℕ, ◌+◌, ◌-◌, ◌<◌, Bool, true, false, not, ◌&&◌, List, [], ◌∷◌, ◌++◌, set, length}
use Rattle.std.proofs.Common.{get_or, drop, sym, ◌∙◌, refl, arith, length-set}
use mathlib.Core.List.{reverse}
use Rattle.std.proofs.lemmas.Bool.{eq-eqb, ne_eqb}
use Rattle.std.proofs.lemmas.List.{get_or-reverse, get_or-replicate, get_or_default, length-reverse, length_push}
use Rattle.std.proofs.lemmas.List.{drop_all}
use Rattle.std.proofs.lemmas.Iterator.Adapters.{YieldsList-from_rev_slice}
use Rattle.std.proofs.lemmas.Iterator.Consumers.{YieldsList-turn}
use Rattle.model.specs.Basics.{is_in}
use Rattle.merging.specs.Merges.{is_new, joined_once}
use Rattle.merger.proofs.Walks.{Seen, seen_more, twice-here, twice-later}
use Rattle.merger.proofs.none_twice.Goals as goal
use Rattle.merger.proofs.none_twice.Goals.{else-m-via-then-m+else-seen-from, else-m-via-else-m}

-- byte m, at place i, comes after n others, from the last on
record Turn (ms : List ℕ) (n i m : ℕ) : Type 0 where
  place : i + 1 + n ≡ length ms
  byte : get_or ms i 0 ≡ m

turn : (ms : List ℕ) (n m : ℕ) → (n < length (reverse ms)) × (m ≡ get_or (reverse ms) n m)
    → Turn ms n (length ms - 1 - n) m
turn ms n m h =
    let below : n < length ms = omega (arith, h.0, length-reverse ms) in
    record {
      place = omega arith;
      byte = get_or_default ms (length ms - 1 - n) 0 m (omega arith) ∙ sym (h.1 ∙ get_or-reverse ms n m below);
    }

-- it is named after its place where it is marked
marked : (seen : List Bool) (ms : List ℕ) (n i m : ℕ) → Turn ms n i m → m < 256 → Seen seen (drop (length ms - n) ms)
    → (not (is_new (get_or ms i 0)) && is_in (get_or ms i 0) (drop (i + 1) ms))
    ≡ (not (is_new m) && get_or seen m false)
marked seen ms n i m t b s =
    let z : i + 1 ≡ length ms - n = omega (arith, t.place) in
    rw (t.byte, z, ← s m b)

abbrev Kept : List Bool → List ℕ → Type 0
Kept seen left = (joined_once left ≡ true) × (length seen ≡ 256) × Seen seen left

next : (seen : List Bool) (ms : List ℕ) (n i m : ℕ) → Turn ms n i m → m < 256
    → (not (is_new m) && get_or seen m false) ≡ false
    → Kept seen (drop (length ms - n) ms) → Kept (set seen m true) (drop i ms)
next seen ms n i m t b e k =
    let z : i + 1 ≡ length ms - n = omega (arith, t.place) in (
      twice-later ms i (omega (arith, t.place)) (marked seen ms n i m t b k.2 ∙ e) (rw z k.0),
      length-set seen m true ∙ k.1,
      rw (← t.byte) (seen_more seen ms i (omega (arith, t.place)) k.1 (rw t.byte b) (rw z k.2)),
    )

pub loop-m-init : goal.loop-m-init
loop-m-init c =
    let ms = c.args.map.now in
    let z = drop_all (length ms - 0) ms (omega arith) in
    (rw z, refl, λ x h. rw z (get_or-replicate 256 x false false h))

pub returns-then-seen-from : goal.returns-then-seen-from
returns-then-seen-from c =
    let ms = c.args.map.now in
    let m = c.in-Some.m.now in
    let from = YieldsList-from_rev_slice ms cc in
    let t = turn ms _ m
    (YieldsList-turn from c.loop-m.yielded _ c.loop-m.yielded_by _ _ c.in-Some.m c.in-Some.is c.next.ensures.steps) in
    let b : m < 256 = rw (← t.byte) (c.type_inv.map (length ms - 1 - length c.loop-m.yielded)).fits in
    let g = rw c.from.ensures at c.if-seen-from.true in
    let e = marked c.loop-m.seen ms _ _ m t b c.loop-m.invariant.2 in
    sym (twice-here ms _ (omega (arith, t.place)) (e ∙ rw (ne_eqb m 255 c.if-m.true, g)))

pub loop-m-preserved : goal.loop-m-preserved
loop-m-preserved c =
    let ms = c.args.map.now in
    let m = c.in-Some.m.now in
    let n = length c.loop-m.yielded in
    let from = YieldsList-from_rev_slice ms cc in
    let t = turn ms _ m
    (YieldsList-turn from c.loop-m.yielded _ c.loop-m.yielded_by _ _ c.in-Some.m c.in-Some.is c.next.ensures.steps) in
    let b : m < 256 = rw (← t.byte) (c.type_inv.map (length ms - 1 - n)).fits in
    let e : (not (is_new m) && get_or c.loop-m.seen m false) ≡ false =
    elim c.else-m.branch [
      | else-m-via-then-m+else-seen-from w ↦ rw (ne_eqb m 255 w.if-m.true) (rw w.from.ensures at w.if-seen-from.false)
      | else-m-via-else-m w ↦ rw (eq-eqb m 255 w.if-m.false)
    ] in
    let l = length_push c.loop-m.yielded c.in-Some.m in
    let z : length ms - length (c.loop-m.yielded ++ c.in-Some.m ∷ []) ≡ length ms - 1 - n = omega (arith, l) in
    rw (z, c.from-in-loop-m.ensures) (next c.loop-m.seen ms n _ m t b e c.loop-m.invariant)
