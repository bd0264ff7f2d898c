-- `prints::put_text` meets its contract: the bytes copied are the text.
use Rattle.std.proofs.Common.{◌≡◌, ◌+◌, ◌-◌, length, refl, arith}
use Rattle.std.proofs.lemmas.List.Edits.{sets-eq}
use Rattle.std.proofs.Math.Seq.{drop-drop}
use Rattle.std.proofs.lemmas.List.{append_assoc}
use Rattle.prints.proofs.put_text.Goals as goal

pub returns : goal.returns
returns c =
    let t = c.args.text.now in
    let put = c.copy_from_slice.ensures.after in
    let n : c.args.at + length t - c.args.at ≡ length t = omega arith in
    record {
      place = refl;
      bytes = rw (put, n, sets-eq t c.args.out.now c.args.at c.requires, append_assoc, drop-drop);
    }
