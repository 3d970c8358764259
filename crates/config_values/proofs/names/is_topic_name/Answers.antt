use Rattle.std.proofs.Common.{◌∙◌, sym}
use Rattle.samza_model.proofs.Laws.{topic_then}
use Rattle.config_values.proofs.names.is_topic_name.Goals as goal

pub returns-then-is_system_name : goal.returns-then-is_system_name
returns-then-is_system_name c = topic_then c.args.name.now c.place_of.result c.split_at.result.0.now c.split_at.result.1.now c.is_stream_behind_dot.result c.place_of.ensures.at c.split_at.ensures.front c.split_at.ensures.back (sym c.is_system_name.ensures.spelled ∙ c.if-is_system_name.true) c.is_stream_behind_dot.ensures
