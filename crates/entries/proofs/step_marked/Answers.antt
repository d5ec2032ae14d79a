use mathlib.Core.Path.{ap, refl, sym, ◌∙◌}
use lib.ListN.{length, get_or}
use Rattle.time.specs.Time.{plain}
use Rattle.triggers.specs.Families.{gcs_age}
use Rattle.calls.specs.Entry.{flight_keeps}
use Rattle.std.proofs.lemmas.Result.{err_from_is_err_and}
use Rattle.wire.proofs.Head.{head_says}
use Rattle.entries.proofs.Finish.{Had, given, same_number, same_output, stepped_state, kept_state, left_long, low_long, listed_thirty, keeps_marked}
use Rattle.entries.specs.Errors.{call_number}
use Rattle.entries.proofs.Numbers.{no_call_zero}
use Rattle.entries.proofs.step_marked.Goals as goal

pub state_on-low-requires : goal.state_on-low-requires
state_on-low-requires c = (head_says 10 304 c.args.state.now c.requires.1).1.1

pub telemetry_on-reading-requires : goal.telemetry_on-reading-requires
telemetry_on-reading-requires c = (head_says 9 148 c.args.telemetry.now c.requires.2).1.1

pub widen_after-requires : goal.widen_after-requires
widen_after-requires c = ((head_says 10 304 c.args.state.now c.requires.1).1.1, ap length c.step_state.ensures.state_after ∙ left_long _ _ _ _ _ _ (ap length c.state_on-low.ensures ∙ low_long _ _ (ap length c.state_marks.ensures ∙ listed_thirty _) c.requires.1) _ (ap flight_keeps c.marked_flight-marked.ensures ∙ keeps_marked c.args.flight.now _ ∙ c.requires.0))

pub returns : goal.returns
returns c =
    let e = c.step_state.ensures in
    let number = ap call_number (sym c.in_ok-step_state.was) ∙ e.value in
    let x = c.state_instants-x in
    let j = c.telemetry_instants-j in
    let sm = c.state_marks in
    let lo = c.state_on-low in
    let tm = c.telemetry_marks in
    let rd = c.telemetry_on-reading in
    let hb = c.flag_at in
    let ag = c.heartbeat_age-age in
    let mf = c.marked_flight-marked in
    let had : Had c.args.with_side c.args.flight.now c.args.areas.now c.args.state.now c.args.telemetry.now c.args.output.now c.requires.0 c.requires.1 c.requires.2 x.result j.result sm.result lo.result tm.result rd.result hb.result ag.result mf.result =
    record { instants = x.ensures; stamps = j.ensures; marks = sm.ensures; image = lo.ensures; stamp_marks_lem = tm.ensures; reading = rd.ensures; heartbeat = hb.ensures; old = ag.ensures ∙ ap (gcs_age plain (get_or j.result 0 0)) (c.then_some-heartbeat.ensures ∙ given _ _); flight = mf.ensures }
    in
    record {
      value = same_number c.args.with_side c.args.flight.now c.args.areas.now c.args.state.now c.args.telemetry.now c.args.output.now c.requires.0 c.requires.1 c.requires.2 x.result j.result sm.result lo.result tm.result rd.result hb.result ag.result mf.result had _ _ _ number e.state_after e.output_after;
      state_after = c.widen_after.ensures ∙ stepped_state c.args.with_side c.args.flight.now c.args.areas.now c.args.state.now c.args.telemetry.now c.args.output.now c.requires.0 c.requires.1 c.requires.2 x.result j.result sm.result lo.result tm.result rd.result hb.result ag.result mf.result had _ _ _ number e.state_after e.output_after refl;
      output_after = same_output c.args.with_side c.args.flight.now c.args.areas.now c.args.state.now c.args.telemetry.now c.args.output.now c.requires.0 c.requires.1 c.requires.2 x.result j.result sm.result lo.result tm.result rd.result hb.result ag.result mf.result had _ _ _ number e.state_after e.output_after;
    }

pub returns-in_err-step_state : goal.returns-in_err-step_state
returns-in_err-step_state c =
    let e = c.step_state.ensures in
    let number = ap call_number (sym c.in_err-step_state.was) ∙ e.value in
    let x = c.state_instants-x in
    let j = c.telemetry_instants-j in
    let sm = c.state_marks in
    let lo = c.state_on-low in
    let tm = c.telemetry_marks in
    let rd = c.telemetry_on-reading in
    let hb = c.flag_at in
    let ag = c.heartbeat_age-age in
    let mf = c.marked_flight-marked in
    let had : Had c.args.with_side c.args.flight.now c.args.areas.now c.args.state.now c.args.telemetry.now c.args.output.now c.requires.0 c.requires.1 c.requires.2 x.result j.result sm.result lo.result tm.result rd.result hb.result ag.result mf.result =
    record { instants = x.ensures; stamps = j.ensures; marks = sm.ensures; image = lo.ensures; stamp_marks_lem = tm.ensures; reading = rd.ensures; heartbeat = hb.ensures; old = ag.ensures ∙ ap (gcs_age plain (get_or j.result 0 0)) (c.then_some-heartbeat.ensures ∙ given _ _); flight = mf.ensures }
    in
    let p = err_from_is_err_and c.from_residual.result c.from_residual.ensures.1 in
    rw (p.1, p.2)
    record {
      value = same_number c.args.with_side c.args.flight.now c.args.areas.now c.args.state.now c.args.telemetry.now c.args.output.now c.requires.0 c.requires.1 c.requires.2 x.result j.result sm.result lo.result tm.result rd.result hb.result ag.result mf.result had _ _ _ number e.state_after e.output_after;
      state_after = kept_state c.args.with_side c.args.flight.now c.args.areas.now c.args.state.now c.args.telemetry.now c.args.output.now c.requires.0 c.requires.1 c.requires.2 x.result j.result sm.result lo.result tm.result rd.result hb.result ag.result mf.result had _ _ _ number e.state_after e.output_after (no_call_zero _);
      output_after = same_output c.args.with_side c.args.flight.now c.args.areas.now c.args.state.now c.args.telemetry.now c.args.output.now c.requires.0 c.requires.1 c.requires.2 x.result j.result sm.result lo.result tm.result rd.result hb.result ag.result mf.result had _ _ _ number e.state_after e.output_after;
    }
