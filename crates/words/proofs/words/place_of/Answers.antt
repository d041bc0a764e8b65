use Rattle.kit.specs.Names.{arith, inl, refl, sym, rules}
use Rattle.std.proofs.lemmas.Iterator.Consumers.{YieldsList-from_first}
use Rattle.std.proofs.lemmas.Iterator.Search.{position_from_yields_List}
use Rattle.words.specs.Bytes.{same_bytes}
use Rattle.words.specs.Line.{words}
use Rattle.words.specs.declared.words.Words.{Words}
use Rattle.words.proofs.LineLaws.{few_words, first_place, told_equal}
use Rattle.words.proofs.words.place_of.Goals as goal

pub position-requires-clause-fits : goal.position-requires-clause-fits
position-requires-clause-fits c = inl (omega (arith, few_words c.args.text.now))

pub returns-clause-value : goal.returns-clause-value
returns-clause-value c =
    let all = words c.args.text.now in
    rw (position_from_yields_List (same_bytes c.args.word.now) c.position.new.self _ c.position.result c.position.ensures.ran (YieldsList-from_first (λ w. w.now) (λ (s : Words). words s.0.now) {s = record { 0 = c.args.text }} all refl) (λ x b q k. (search rules, sym (told_equal _ _ (search rules)))))
    (first_place all c.args.word.now)
