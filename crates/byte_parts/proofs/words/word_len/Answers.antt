use Rattle.std.proofs.Common.{ltb, length, Some, None, ◌∙◌, ap, ⊎_elim, arith, rules, tests}
use Rattle.std.specs.List.{prefix_len}
use Rattle.std.specs.Option.{unwrap_or}
use Rattle.std.proofs.lemmas.Bool.{cases_Bool, cond-true, cond-false, ltb-false}
use Rattle.std.proofs.lemmas.Iterator.{YieldsList-from_slice}
use Rattle.std.proofs.lemmas.Iterator.Search.{position_from_yields_List}
use Rattle.std.proofs.lemmas.List.Sums.{prefix_len-le-length}
use Rattle.byte_parts.specs.Words.{white, dark}
use Rattle.byte_parts.proofs.words.word_len.Goals as goal

pub returns-clause-value : goal.returns-clause-value
returns-clause-value c =
    let text = c.args.text.now in
    let found = position_from_yields_List white _ _ c.position.result c.position.ensures.ran (YieldsList-from_slice text (cc)) (λ x b q k. search (rules, tests)) in
    let fits = prefix_len-le-length dark text in
    c.unwrap_or.ensures
    ∙ ap (λ o. unwrap_or o (length text)) found
    ∙ ⊎_elim
    (λ t. ap (λ o. unwrap_or o (length text)) (cond-true (ltb (prefix_len dark text) (length text)) (Some (prefix_len dark text)) None t))
    (λ f. let past = ltb-false _ _ f in ap (λ o. unwrap_or o (length text)) (cond-false (ltb (prefix_len dark text) (length text)) (Some (prefix_len dark text)) None f) ∙ omega arith)
    (cases_Bool (ltb (prefix_len dark text) (length text)))
