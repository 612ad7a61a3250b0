-- What the proofs of crates above may cite of this crate's lemmas, and nothing else of its proofs. Of the first pass: it comes to
-- an end at every text. Of what it lets through: the tokens are in range, the limits hold, and they have one reading. Of the
-- grammar: a procedure is spelled with some token, and what the first token of a part says of the part.
pub use Rattle.dt_syntax.proofs.FirstPassEnds.{FirstPassEnds, first_pass_ends}
pub use Rattle.dt_syntax.proofs.LimitsKept.{procs_small}
pub use Rattle.dt_syntax.proofs.OneReading.{none_spelled, one_reading}
pub use Rattle.dt_syntax.proofs.OneStop.{Read, Stop, end, many, one_stop, same_many, same_wrong, wrong}
pub use Rattle.dt_syntax.proofs.Shapes.{AreItems, begins_other, chain_cut, chain_shape, cut_first, front_token, inner, items_cut, items_stop}
pub use Rattle.dt_syntax.proofs.Shapes.{key_first, key_none, after_first, link_first, links_stop, more_end, more_next, next_item, no_comma_close, no_else}
pub use Rattle.dt_syntax.proofs.Shapes.{no_join_semicolon, no_statement, part_show, proc_cut, proc_longer, six_stop, some_statement, step_when}
pub use Rattle.dt_syntax.proofs.TokenRanges.{sound_left, sound_right, text_sound}
