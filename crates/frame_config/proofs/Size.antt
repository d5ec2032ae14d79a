-- A Config frame has 246 bytes. Assumes nothing.
use mathlib.Core.Path.{◌≡◌, refl}
use lib.ListN.{length}
use Rattle.wire.specs.Fields.{le8, le_flag, le_bytes, le16, le32, le_f32}
use Rattle.wire.specs.Frame.{frame_head}
use Rattle.config.specs.declared.Config.{Config}
use Rattle.frame_config.specs.ConfigFrame.{config_frame, config_cells, freshness_cells, link_cells, fence_cells, battery_cells, energy_cells, flight_cells}

pub size : (c : Config) → length (config_frame c) ≡ 246
unfolding config_frame config_cells freshness_cells link_cells fence_cells battery_cells energy_cells flight_cells frame_head le8 le_flag le_bytes le16 le32 le_f32
size c = refl
