-- `kind`: the bytes of an arm make its text.
use Rattle.std.proofs.Common.{◌≡◌, rules, arith}
use Rattle.std.proofs.lemmas.Slice.Eq.{text_from_reads}
use Rattle.lines.specs.Words.{general_text, reserved_text, kind_named}
use Rattle.lines.proofs.kind.Goals as goal

pub returns-in-general : goal.returns-in-general
unfolding kind_named
returns-in-general c =
    let is : c.args.text.now ≡ general_text = text_from_reads _ general_text (omega arith) (search rules) in
    rw is

pub returns-in-reserved : goal.returns-in-reserved
unfolding kind_named
returns-in-reserved c =
    let is : c.args.text.now ≡ reserved_text = text_from_reads _ reserved_text (omega arith) (search rules) in
    rw is
