-- `read_form` by the number of its words.
use Rattle.std.proofs.Common.{Option, Some, ◌==◌, ℕ, sym, ap, ◌∙◌, rules, tests}
use Rattle.std.proofs.lemmas.Iterator.Splits.{YieldsList-from_slice_split}
use Rattle.lines.specs.Words.{decimal_of}
use Rattle.bench_lines.specs.Commands.{with_one, with_two, command_in}
use Rattle.bench_lines.proofs.Reading.{one_word, two_words, three_words, more_words}
use Rattle.bench_lines.proofs.read_form.Goals as goal

pub returns-in-None-default-default : goal.returns-in-None-default-default
unfolding command_in with_one with_two
returns-in-None-default-default c =
    let w = one_word c.next.new.self c.next-2.new.self (YieldsList-from_slice_split {s = c.split-words.result} _ (λ b. b == 32) c.args.text.now c.split-words.ensures.rest c.split-words.ensures.done c.split-words.ensures.closure (λ x r q k. search (rules, tests)))
    c.in_ok-name.name c.in_ok-name.ensures.steps c.in-None-default-default.ensures.steps in
    c.alone.ensures ∙ sym (ap command_in w)

pub returns-in_err-decimal-in-Some-None-default : goal.returns-in_err-decimal-in-Some-None-default
unfolding command_in with_one with_two
returns-in_err-decimal-in-Some-None-default c =
    let w = two_words c.next.new.self c.next-2.new.self (YieldsList-from_slice_split {s = c.split-words.result} _ (λ b. b == 32) c.args.text.now c.split-words.ensures.rest c.split-words.ensures.done c.split-words.ensures.closure (λ x r q k. search (rules, tests)))
    c.in_ok-name.name c.in_ok-name.ensures.steps c.in-Some-None-default.n c.in-Some-None-default.ensures.steps c.next-3.new.self c.in-Some-None-default.ensures'.steps in
    c.from_residual-in_err-decimal-in-Some-None-default.ensures ∙ ap (with_one c.in_ok-name.name.now) (sym c.in_err-decimal-in-Some-None-default.was ∙ c.decimal.ensures) ∙ sym (ap command_in w)

pub returns-in_ok-decimal-in-Some-None-default : goal.returns-in_ok-decimal-in-Some-None-default
unfolding command_in with_one with_two
returns-in_ok-decimal-in-Some-None-default c =
    let w = two_words c.next.new.self c.next-2.new.self (YieldsList-from_slice_split {s = c.split-words.result} _ (λ b. b == 32) c.args.text.now c.split-words.ensures.rest c.split-words.ensures.done c.split-words.ensures.closure (λ x r q k. search (rules, tests)))
    c.in_ok-name.name c.in_ok-name.ensures.steps c.in-Some-None-default.n c.in-Some-None-default.ensures.steps c.next-3.new.self c.in-Some-None-default.ensures'.steps in
    c.one_number.ensures ∙ ap (with_one c.in_ok-name.name.now) (sym c.in_ok-decimal-in-Some-None-default.was ∙ c.decimal.ensures) ∙ sym (ap command_in w)

pub returns-in_err-decimal-in-Some-Some-None : goal.returns-in_err-decimal-in-Some-Some-None
unfolding command_in with_one with_two
returns-in_err-decimal-in-Some-Some-None c =
    let w = three_words c.next.new.self c.next-2.new.self (YieldsList-from_slice_split {s = c.split-words.result} _ (λ b. b == 32) c.args.text.now c.split-words.ensures.rest c.split-words.ensures.done c.split-words.ensures.closure (λ x r q k. search (rules, tests)))
    c.in_ok-name.name c.in_ok-name.ensures.steps c.in-Some-Some-None.a c.in-Some-Some-None.ensures.steps c.next-3.new.self c.next-4.new.self c.in-Some-Some-None.b c.in-Some-Some-None.ensures'.steps c.in-Some-Some-None.ensures''.steps in
    c.from_residual-in_err-decimal-in-Some-Some-None.ensures
    ∙ ap (λ (k : Option ℕ). with_two c.in_ok-name.name.now k (decimal_of c.in-Some-Some-None.b.now)) (sym c.in_err-decimal-in-Some-Some-None.was ∙ c.decimal-in-Some-Some-None.ensures) ∙ sym (ap command_in w)

pub returns-in_err-decimal-in-Some-Some-None-2 : goal.returns-in_err-decimal-in-Some-Some-None-2
unfolding command_in with_one with_two
returns-in_err-decimal-in-Some-Some-None-2 c =
    let w = three_words c.next.new.self c.next-2.new.self (YieldsList-from_slice_split {s = c.split-words.result} _ (λ b. b == 32) c.args.text.now c.split-words.ensures.rest c.split-words.ensures.done c.split-words.ensures.closure (λ x r q k. search (rules, tests)))
    c.in_ok-name.name c.in_ok-name.ensures.steps c.in-Some-Some-None.a c.in-Some-Some-None.ensures.steps c.next-3.new.self c.next-4.new.self c.in-Some-Some-None.b c.in-Some-Some-None.ensures'.steps c.in-Some-Some-None.ensures''.steps in
    c.from_residual-in_err-decimal-in-Some-Some-None-2.ensures
    ∙ ap (with_two c.in_ok-name.name.now (Some _)) (sym c.in_err-decimal-in-Some-Some-None-2.was ∙ c.decimal-in-Some-Some-None-2.ensures)
    ∙ ap (λ (k : Option ℕ). with_two c.in_ok-name.name.now k (decimal_of c.in-Some-Some-None.b.now)) (sym c.in_ok-decimal-in-Some-Some-None.was ∙ c.decimal-in-Some-Some-None.ensures) ∙ sym (ap command_in w)

pub returns-in_ok-decimal-in-Some-Some-None-2 : goal.returns-in_ok-decimal-in-Some-Some-None-2
unfolding command_in with_one with_two
returns-in_ok-decimal-in-Some-Some-None-2 c =
    let w = three_words c.next.new.self c.next-2.new.self (YieldsList-from_slice_split {s = c.split-words.result} _ (λ b. b == 32) c.args.text.now c.split-words.ensures.rest c.split-words.ensures.done c.split-words.ensures.closure (λ x r q k. search (rules, tests)))
    c.in_ok-name.name c.in_ok-name.ensures.steps c.in-Some-Some-None.a c.in-Some-Some-None.ensures.steps c.next-3.new.self c.next-4.new.self c.in-Some-Some-None.b c.in-Some-Some-None.ensures'.steps c.in-Some-Some-None.ensures''.steps in
    c.two_numbers.ensures
    ∙ ap (with_two c.in_ok-name.name.now (Some _)) (sym c.in_ok-decimal-in-Some-Some-None-2.was ∙ c.decimal-in-Some-Some-None-2.ensures)
    ∙ ap (λ (k : Option ℕ). with_two c.in_ok-name.name.now k (decimal_of c.in-Some-Some-None.b.now)) (sym c.in_ok-decimal-in-Some-Some-None.was ∙ c.decimal-in-Some-Some-None.ensures) ∙ sym (ap command_in w)

pub returns-in_default : goal.returns-in_default
unfolding command_in with_one with_two
returns-in_default c =
    let w = more_words c.next.new.self c.next-2.new.self (YieldsList-from_slice_split {s = c.split-words.result} _ (λ b. b == 32) c.args.text.now c.split-words.ensures.rest c.split-words.ensures.done c.split-words.ensures.closure (λ x r q k. search (rules, tests)))
    c.in_ok-name.name c.in_ok-name.ensures.steps c.in_default.field-0-0 c.in_default.ensures.steps c.next-3.new.self c.next-4.new.self c.in_default.field-0-1 c.in_default.field-0-2 c.in_default.ensures'.steps c.in_default.ensures''.steps in
    sym (ap command_in w.1)
