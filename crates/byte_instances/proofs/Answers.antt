-- The instances of what single calls answer, computed. Assumes nothing.
use mathlib.Core.Path.{refl}
use Rattle.wire.specs.Fields.{u8_at, le_bytes, le16}
use Rattle.wire.specs.Frame.{frame_head, frame_written, check_room}
use Rattle.frame_areas.specs.AreasFrame.{bodies, held_in, areas_fault, bodies_of, areas_frame}
use Rattle.edit_areas.specs.Edit.{remove_call}
use Rattle.whole_energy.specs.Root.{whole_root}
use Rattle.whole_energy.specs.Energy.{remainder_of, distance_of, total_of}
use Rattle.byte_instances.specs.Answers.{AnswerInstances}

pub answer_instances : AnswerInstances
unfolding u8_at le_bytes le16 frame_head check_room frame_written bodies held_in areas_fault bodies_of areas_frame remove_call whole_root remainder_of distance_of total_of
answer_instances = record { number_before_room = refl; refused_writes_nothing = refl; cruise_alone = refl }
