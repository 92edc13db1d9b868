use Rattle.std.proofs.Common.{inl, inr, refl, arith}
use Rattle.bites_text.proofs.RowLemmas.{two_row, three_row, four_row}
use Rattle.bites_text.proofs.FrontLemmas.{fits_there, stops_there, past_ascii, broken, lone, alone, front_parts, two_whole, three_whole, four_whole}
use Rattle.bites_text.proofs.utf8.whole_len_past_ascii.Goals as goal

pub returns-then-bytes-lt2-clause-none : goal.returns-then-bytes-lt2-clause-none
returns-then-bytes-lt2-clause-none c = alone c.args.bytes.now (omega arith)

pub returns-in-194-to-223 : goal.returns-in-194-to-223
returns-in-194-to-223 c =
    let parts = front_parts c.args.bytes.now (omega arith) in
    let is = past_ascii _ _ _ _ _ parts (omega arith) (two_whole _ _ (omega arith) (omega arith) (fits_there _ _ _ _ 0 _ parts c.has_continuation.ensures c.if-has_continuation.true)) in
    record { len = is.len; past_ascii = is.past_ascii; none = tt; several = omega arith; within = is.within }

pub returns-in-224-to-239 : goal.returns-in-224-to-239
returns-in-224-to-239 c =
    let parts = front_parts c.args.bytes.now (omega arith) in
    let is = past_ascii _ _ _ _ _ parts (omega arith) (three_whole _ _ (omega arith) (omega arith) (fits_there _ _ _ _ 0 _ parts c.has_second.ensures c.if-has_second.true) (fits_there _ _ _ _ 1 _ parts c.has_continuation-then-first-lt240.ensures c.if-has_continuation-2.true)) in
    record { len = is.len; past_ascii = is.past_ascii; none = tt; several = omega arith; within = is.within }

pub returns-in-240-to-244 : goal.returns-in-240-to-244
returns-in-240-to-244 c =
    let parts = front_parts c.args.bytes.now (omega arith) in
    let is = past_ascii _ _ _ _ _ parts (omega arith) (four_whole _ _ (omega arith) (omega arith) (fits_there _ _ _ _ 0 _ parts c.has_second-then-has_continuation-4.ensures c.if-has_second-2.true) (fits_there _ _ _ _ 1 _ parts c.has_continuation-then-first-lt245.ensures c.if-has_continuation-3.true) (fits_there _ _ _ _ 2 _ parts c.has_continuation-then-has_continuation-3.ensures c.if-has_continuation-4.true)) in
    record { len = is.len; past_ascii = is.past_ascii; none = tt; several = omega arith; within = is.within }

pub returns-in_default-clause-none : goal.returns-in_default-clause-none
returns-in_default-clause-none c = lone _ _ _ (front_parts c.args.bytes.now (omega arith)) (inl (omega arith))

pub returns-in_default-2-clause-none : goal.returns-in_default-2-clause-none
returns-in_default-2-clause-none c =
    let parts = front_parts c.args.bytes.now (omega arith) in
    broken _ _ _ _ 0 _ parts (two_row _ _ (omega arith) (omega arith)) refl (stops_there _ _ _ _ 0 _ parts c.has_continuation.ensures c.if-has_continuation.false)

pub returns-in_default-3-clause-none : goal.returns-in_default-3-clause-none
returns-in_default-3-clause-none c =
    let parts = front_parts c.args.bytes.now (omega arith) in
    broken _ _ _ _ 0 _ parts (three_row _ _ (omega arith) (omega arith)) refl (stops_there _ _ _ _ 0 _ parts c.has_second.ensures c.if-has_second.false)

pub returns-in_default-4-clause-none : goal.returns-in_default-4-clause-none
returns-in_default-4-clause-none c =
    let parts = front_parts c.args.bytes.now (omega arith) in
    broken _ _ _ _ 1 _ parts (three_row _ _ (omega arith) (omega arith)) refl (stops_there _ _ _ _ 1 _ parts c.has_continuation-then-first-lt240.ensures c.if-has_continuation-2.false)

pub returns-in_default-5-clause-none : goal.returns-in_default-5-clause-none
returns-in_default-5-clause-none c =
    let parts = front_parts c.args.bytes.now (omega arith) in
    broken _ _ _ _ 0 _ parts (four_row _ _ (omega arith) (omega arith)) refl (stops_there _ _ _ _ 0 _ parts c.has_second-then-has_continuation-4.ensures c.if-has_second-2.false)

pub returns-in_default-6-clause-none : goal.returns-in_default-6-clause-none
returns-in_default-6-clause-none c =
    let parts = front_parts c.args.bytes.now (omega arith) in
    broken _ _ _ _ 2 _ parts (four_row _ _ (omega arith) (omega arith)) refl (stops_there _ _ _ _ 2 _ parts c.has_continuation-then-has_continuation-3.ensures c.if-has_continuation-4.false)

pub returns-in_default-7-clause-none : goal.returns-in_default-7-clause-none
returns-in_default-7-clause-none c =
    let parts = front_parts c.args.bytes.now (omega arith) in
    broken _ _ _ _ 1 _ parts (four_row _ _ (omega arith) (omega arith)) refl (stops_there _ _ _ _ 1 _ parts c.has_continuation-then-first-lt245.ensures c.if-has_continuation-3.false)

pub returns-in_default-8-clause-none : goal.returns-in_default-8-clause-none
returns-in_default-8-clause-none c = lone _ _ _ (front_parts c.args.bytes.now (omega arith)) (inr (omega arith))
