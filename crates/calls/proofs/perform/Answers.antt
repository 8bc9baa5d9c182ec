-- `perform`: refused by 3 or 11; or opened, done and closed.
use mathlib.Core.Path.{◌≡◌, sym, ◌∙◌}
use Rattle.rules.specs.Check.{checked}
use Rattle.rules.proofs.Numbers.{gives_refused, passed_number}
use Rattle.rules.proofs.OpenAs.{call_may, call_closes, call_gives}
use Rattle.calls.specs.Operations.{operation_call}
use Rattle.calls.proofs.Kept.{never_short, keeps_form}
use Rattle.calls.proofs.perform.Goals as goal

pub operate-done-requires : goal.operate-done-requires
operate-done-requires c =
    let passed : let a = c.args in checked a.a.now a.words.now ≡ 0 = passed_number _ _ (sym c.open-opened.ensures.tested ∙ c.in_default.is) in
    let a = c.args in
    call_may (operation_call a.operation) a.a.now a.words.now (never_short a.operation) (keeps_form a.operation _) passed c.open-opened.ensures

pub close-requires : goal.close-requires
close-requires c =
    let passed : let a = c.args in checked a.a.now a.words.now ≡ 0 = passed_number _ _ (sym c.open-opened.ensures.tested ∙ c.in_default.is) in
    let a = c.args in
    call_closes (operation_call a.operation) a.a.now a.words.now (never_short a.operation) (keeps_form a.operation _) passed c.open-opened.ensures c.operate-done.ensures

pub returns : goal.returns
returns c =
    let passed : let a = c.args in checked a.a.now a.words.now ≡ 0 = passed_number _ _ (sym c.open-opened.ensures.tested ∙ c.in_default.is) in
    let a = c.args in
    call_gives (operation_call a.operation) a.a.now a.words.now (never_short a.operation) (keeps_form a.operation _) passed c.open-opened.ensures c.operate-done.ensures _ c.close.ensures

pub returns-in-Err : goal.returns-in-Err
returns-in-Err c = let a = c.args in
    rw c.from.ensures (gives_refused (operation_call a.operation) a.a.now a.words.now (never_short a.operation) c.in-Err.refusal (sym c.open-opened.ensures.tested ∙ c.in-Err.is))
