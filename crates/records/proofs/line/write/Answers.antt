use Rattle.std.proofs.Common.{◌≡◌, length, refl, ap, ◌∙◌, arith}
use Rattle.records.specs.Line.{digits, named}
use Rattle.records.proofs.Laid.{Parts, line_laid, line_said, word_count, room_after}
use Rattle.records.proofs.line.write.Goals as goal

pub slice_bounds-bytes-end-3 : goal.slice_bounds-bytes-end-3
slice_bounds-bytes-end-3 c =
    let w : length c.copy_from_slice.new.self ≡ 11 = ap length (c.copy_from_slice.ensures.after ∙ c.write_reference.ensures.written) ∙ word_count _ in
    let u : length c.copy_from_slice-2.new.self ≡ 11 = ap length (c.copy_from_slice-2.ensures.after ∙ c.write_reference-2.ensures.written) ∙ word_count _ in
    room_after c.copy_from_slice.new.self _ c.copy_from_slice-2.new.self w refl u

pub returns : goal.returns
returns c =
    let s = c.args.step in
    let w = c.copy_from_slice.new.self in
    let u = c.copy_from_slice-2.new.self in
    let d = c.write_number.new.places in
    let l = c.copy_from_slice.ensures.after in
    let r = c.copy_from_slice-2.ensures.after in
    let p : Parts s w u d = record { left_part = l ∙ c.write_reference.ensures.written; right_part = r ∙ c.write_reference-2.ensures.written; variable_part = c.write_number.ensures ∙ ap (digits _) c.from.ensures } in
    record {
      written = line_laid s w u d p;
      read_back = line_said s w u d p (ap named l ∙ c.write_reference.ensures.read_back) (ap named r ∙ c.write_reference-2.ensures.read_back) (omega arith);
    }
