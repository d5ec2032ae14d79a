-- Where a turn of the program leaves it, from what its functions know. Assumes nothing.
use Prim.Native.Nat.{ℕ, ◌+◌, ◌-◌, ◌≤◌}
use native.Mathlib.Omega.{arith}
use mathlib.Core.List.{List, [], ◌++◌}
use mathlib.Core.Path.{◌≡◌, sym, ◌∙◌, ap}
use lib.ListN.{length, take, drop, take-append-drop}
use lib.Seq.{slice, length-take-le, take-take, take-add, take_at, drop_at, drop-drop}
use borrow.Author.Tests.{eq-eqb, ne_eqb}
use Rattle.stream.specs.declared.Session.{Session}
use Rattle.stream.specs.Stream.{begin}
use Rattle.decided.specs.declared.Kept.{Kept}
use Rattle.decided.specs.Decided.{begun}
use Rattle.decided.specs.Program.{state, turn, moved_front, Pending, pending, next, newly, started, Turns, start, turned}

-- the part of a slice that is lent from a place up to an end
pub lent : (a e : ℕ) (s : List ℕ) → a ≤ e → e ≤ length s → take (e - a) (drop a s) ≡ slice a e s
lent a e s h k =
    let whole : a + (e - a) ≡ e = omega arith in
    sym
    (ap (λ (n : ℕ). drop a (take n s)) (sym whole)
    ∙ ap (drop a) (take-add a (e - a) s)
    ∙ drop_at (take a s) (take (e - a) (drop a s)) a (length-take-le a s (omega arith)))

-- the rest moved to the front, and bytes read behind it
pub behind : (from have full n : ℕ) (s moved now : List ℕ) → n ≡ length (slice from have s) → moved ≡ moved_front from have s → take n now ≡ take n moved → n ≤ full
    → slice 0 full now ≡ slice from have s ++ drop (length (slice from have s)) (slice 0 full now)
unfolding moved_front
behind from have full n s moved now e m t h =
    let rest = slice from have s in
    let front : take n now ≡ rest = t ∙ ap (take n) m ∙ take_at rest (drop (length rest) s) n (sym e) in
    rw (← e) (sym (ap (λ (r : List ℕ). r ++ drop n (take full now)) (sym front ∙ sym (take-take n full now h)) ∙ take-append-drop n (take full now)))

module _ (k : Kept) (input held kept part : List ℕ) (size taken : ℕ) (after : Session)
    (m : part ≡ slice k.from k.have input)
    (a : state after kept ≡ (turn size (state k.session held) part).after)
    (t : taken ≡ (turn size (state k.session held) part).taken) where
  -- nothing was taken, and these bytes were read behind the rest
  pub turned_read : (r : Kept) (now : List ℕ) → taken ≡ 0 → r.session ≡ after
      → slice r.from r.have now ≡ slice k.from k.have input ++ drop (length (slice k.from k.have input)) (slice r.from r.have now)
      → pending r now kept ≡ next size (pending k input held) (newly (pending k input held) (pending r now kept))
  unfolding next
  turned_read r now z s q =
      let none = rw m at (sym t ∙ z) in
      let there = rw m at (ap (λ (x : Session). state x kept) s ∙ a) in
      rw (eq-eqb (turn size (state k.session held) (slice k.from k.have input)).taken 0 none) (λ i. record { now = there i; rest = q i })

  -- so many bytes were taken
  pub turned_taken : (r : Kept) → (taken ≡ 0 → ⊥) → r.session ≡ after → r.from ≡ k.from + taken → r.have ≡ k.have
      → pending r input kept ≡ next size (pending k input held) (newly (pending k input held) (pending r input kept))
  unfolding next
  turned_taken r z s f h =
      let here = rw m at t in
      let there = rw m at (ap (λ (x : Session). state x kept) s ∙ a) in
      let left : slice r.from r.have input ≡ drop taken (slice k.from k.have input) = rw (f, h) (sym (drop-drop taken k.from (take k.have input))) in
      let same = left ∙ ap (λ (n : ℕ). drop n (slice k.from k.have input)) here in
      rw (ne_eqb (turn size (state k.session held) (slice k.from k.have input)).taken 0 (λ w. z (here ∙ w))) (λ i. record { now = there i; rest = same i })

-- before the first turn
pub at_start : (s : Session) (held : List ℕ) (size : ℕ) → s ≡ begin → Turns size (record { now = state s held; rest = [] })
unfolding started begun begin
at_start s held size e = rw e start

-- one turn more
pub one_more : (size length : ℕ) (p q : Pending) (block : List ℕ) → q ≡ next length p block → length ≡ size → Turns size p → Turns size q
one_more size length p q block e l t = rw (e, l) (turned p block t)
