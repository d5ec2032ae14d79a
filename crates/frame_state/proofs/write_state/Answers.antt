-- `frame_state::write_state` meets its contract. Assumes nothing.
use mathlib.Core.Path.{◌∙◌}
use native.Mathlib.Omega.{arith}
use Rattle.wire.proofs.Head.{room, no_room}
use Rattle.frame_state.specs.StateFrame.{state_frame}
use Rattle.frame_state.proofs.Size.{size, least}
use Rattle.frame_state.proofs.write_state.Goals as goal

-- under 186 bytes there is no room for either kind
pub returns-then-s-lt186 : goal.returns-then-s-lt186
returns-then-s-lt186 c =
    let a = c.args in
    let l = least a.keeps in
    no_room (state_frame a.keeps a.x) a.s.now _ (size a.keeps a.x) (omega arith)

pub returns-then-s-state_size : goal.returns-then-s-state_size
returns-then-s-state_size c =
    let a = c.args in
    no_room (state_frame a.keeps a.x) a.s.now _ (size a.keeps a.x) (let e = c.state_size.ensures in omega arith)

pub returns : goal.returns
returns c =
    let a = c.args in
    let r = room (state_frame a.keeps a.x) a.s.now _ (size a.keeps a.x) (let e = c.state_size.ensures in omega arith) in
    (r.0, c.put_state.ensures ∙ r.1)
