use Rattle.std.proofs.Common.{◌∙◌, ℕ, List, ◌-◌, length, drop, take, get_or, Some, inl, inr, sym, ap, arith}
use Rattle.bites_spec.specs.Utf8.{Piece, front_piece}
use Rattle.bites_text.proofs.FrontLemmas.{front_parts, front_end}
use Rattle.bites_text.proofs.PieceFacts.{front_len}
use Rattle.bites_text.proofs.RowLemmas.{ascii_piece, lone_piece}
use Rattle.bites_text.proofs.utf8.decode.Goals as goal

pub returns-in_default : goal.returns-in_default
returns-in_default c =
    let s = c.args.bytes.now in
    let is = front_end s (omega arith) in
    let n = ap (λ (p : Piece). p.len) (sym is) in
    let lens = front_len s _ n in
    record { decoded = ap (λ (p : Piece). p.decoded) (sym is); len = n; short = lens.short; within = lens.within; further = lens.further }

pub returns-in-0-to-127 : goal.returns-in-0-to-127
returns-in-0-to-127 c =
    let s = c.args.bytes.now in
    let parts = front_parts s (omega arith) in
    let is = ap front_piece (sym parts) ∙ ascii_piece (get_or s 0 0) (take (length s - 1) (drop 1 s)) (omega arith) in
    let n = ap (λ (p : Piece). p.len) (sym is) in
    let lens = front_len s _ n in
    record { decoded = ap Some c.from.ensures ∙ ap (λ (p : Piece). p.decoded) (sym is); len = n; short = lens.short; within = lens.within; further = lens.further }

pub returns-in-194-to-223 : goal.returns-in-194-to-223
returns-in-194-to-223 c =
    let s = c.args.bytes.now in
    let parts = front_parts s (omega arith) in
    let n = c.decode_two.ensures.len ∙ ap (λ (x : List ℕ). (front_piece x).len) parts in
    let lens = front_len s _ n in
    record { decoded = c.decode_two.ensures.decoded ∙ ap (λ (x : List ℕ). (front_piece x).decoded) parts; len = n; short = lens.short; within = lens.within; further = lens.further }

pub returns-in-224-to-239 : goal.returns-in-224-to-239
returns-in-224-to-239 c =
    let s = c.args.bytes.now in
    let parts = front_parts s (omega arith) in
    let n = c.decode_three.ensures.len ∙ ap (λ (x : List ℕ). (front_piece x).len) parts in
    let lens = front_len s _ n in
    record { decoded = c.decode_three.ensures.decoded ∙ ap (λ (x : List ℕ). (front_piece x).decoded) parts; len = n; short = lens.short; within = lens.within; further = lens.further }

pub returns-in-240-to-244 : goal.returns-in-240-to-244
returns-in-240-to-244 c =
    let s = c.args.bytes.now in
    let parts = front_parts s (omega arith) in
    let n = c.decode_four.ensures.len ∙ ap (λ (x : List ℕ). (front_piece x).len) parts in
    let lens = front_len s _ n in
    record { decoded = c.decode_four.ensures.decoded ∙ ap (λ (x : List ℕ). (front_piece x).decoded) parts; len = n; short = lens.short; within = lens.within; further = lens.further }

pub returns-in_default-first : goal.returns-in_default-first
returns-in_default-first c =
    let s = c.args.bytes.now in
    let parts = front_parts s (omega arith) in
    let is = ap front_piece (sym parts) ∙ lone_piece (get_or s 0 0) (take (length s - 1) (drop 1 s)) (inl (omega arith, omega arith)) in
    let n = ap (λ (p : Piece). p.len) (sym is) in
    let lens = front_len s _ n in
    record { decoded = ap (λ (p : Piece). p.decoded) (sym is); len = n; short = lens.short; within = lens.within; further = lens.further }

pub returns-in_default-first-2 : goal.returns-in_default-first-2
returns-in_default-first-2 c =
    let s = c.args.bytes.now in
    let parts = front_parts s (omega arith) in
    let is = ap front_piece (sym parts) ∙ lone_piece (get_or s 0 0) (take (length s - 1) (drop 1 s)) (inr (omega arith)) in
    let n = ap (λ (p : Piece). p.len) (sym is) in
    let lens = front_len s _ n in
    record { decoded = ap (λ (p : Piece). p.decoded) (sym is); len = n; short = lens.short; within = lens.within; further = lens.further }
