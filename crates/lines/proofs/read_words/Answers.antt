-- `read_words`: the words so far are put, and at the end all of them.
use Rattle.std.proofs.Common.{◌==◌, drop, refl, ap, ◌∙◌, rules, tests, arith}
use lib.ListN.{length-set}
use Rattle.std.proofs.lemmas.List.{take_rest}
use Rattle.std.proofs.lemmas.Iterator.Consumers.{YieldsList-end}
use Rattle.std.proofs.lemmas.Iterator.Splits.{YieldsList-from_slice_split}
use Rattle.lines.specs.Words.{put_all}
use Rattle.lines.proofs.Words.{nothing_after, put_one, put_nowhere, put_none, reads}
use Rattle.std.specs.Prelude.{ℕ, Option}
use Rattle.std.specs.Option.{ok_or}
use Rattle.lines.proofs.read_words.Goals as goal

pub returns-in_default-clause-reads : goal.returns-in_default-clause-reads
returns-in_default-clause-reads c = nothing_after c.args.layout c.args.text.now c.args.numbers.now c.in_default.len_below

pub loop-word-init : goal.loop-word-init
unfolding put_all
loop-word-init c = record { in_place = search rules; so_far = refl }

pub loop-word-preserved-then-len-numbers : goal.loop-word-preserved-then-len-numbers
loop-word-preserved-then-len-numbers c =
    let v = c.loop-word in
    record {
      in_place = simp length-set (omega arith);
      so_far = put_one c.args.layout v.yielded c.in-Some.word _ v.len v.valid v.numbers v.invariant.so_far c.in-Some-number.n c.in-Some-number.ensures c.if-len-numbers.true;
    }

pub loop-word-preserved-in_default-number : goal.loop-word-preserved-in_default-number
loop-word-preserved-in_default-number c =
    let v = c.loop-word in
    record {
      in_place = v.invariant.in_place;
      so_far = put_nowhere c.args.layout v.yielded c.in-Some.word _ v.len v.valid v.numbers v.invariant.so_far c.in-Some-number.n c.in-Some-number.ensures c.if-len-numbers.false;
    }

pub loop-word-preserved : goal.loop-word-preserved
loop-word-preserved c =
    let v = c.loop-word in
    record {
      in_place = v.invariant.in_place;
      so_far = put_none c.args.layout v.yielded c.in-Some.word _ v.len v.valid v.numbers v.invariant.so_far c.in_default-number.ensures;
    }

pub returns-clause-reads : goal.returns-clause-reads
returns-clause-reads c =
    let a = c.args in
    let v = c.loop-word in
    let s = c.split-word-items.ensures in
    let g = c.into_iter-word-iterator.ensures.into_iter_gives in
    let end = YieldsList-end (YieldsList-from_slice_split {s = c.into_iter-word-iterator.result} _ (λ b. b == 32) (drop 1 a.text.now)
    (ap (λ x. x.rest.now) g ∙ s.rest ∙ take_rest a.text.now 1) (ap (λ x. x.done) g ∙ s.done) (ap (λ x. x.pred) g ∙ s.closure) (λ x r q k. search (rules, tests)))
    v.yielded _ v.yielded_by _ _ c.in-None.is c.next.ensures.steps in
    reads a.layout a.text.now a.numbers.now v.numbers _ v.len v.valid c.ok_or.result c.in-len1-up.len_at_least end.0 v.invariant.so_far
    (c.ok_or.ensures.value ∙ ap (λ (o : Option ℕ). ok_or o (record { put = v.len })) c.then_some.ensures)
