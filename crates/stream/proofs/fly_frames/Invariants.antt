use Prim.Native.Nat.{◌-◌, ◌≤◌}
use mathlib.Core.Path.{◌≡◌}
use lib.ListN.{length, drop}
use Rattle.stream.specs.Stream.{progress, answer_frames, fly_session}
use Rattle.stream.proofs.fly_frames.Given as goal

abbrev pub invariant-loop-turn : goal.invariant-loop-turn
invariant-loop-turn l =
    record {
      taken : l.p.taken ≤ length l.input;
      put : l.p.put ≤ length l.out;
      behind : drop l.p.put l.out ≡ drop l.p.put l.initial.out;
      areas : l.p.areas ≤ 1045;
      space : length l.held ≡ 1045;
      same : answer_frames (length l.input - l._turn) l.session.flight l.input (length l.initial.out) (progress l.p l.out l.held) ≡ fly_session l.session l.initial.held l.input (length l.initial.out);
    }
