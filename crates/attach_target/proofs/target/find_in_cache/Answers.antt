use Rattle.std.proofs.Common.{IfOk, sym, subst}
use Rattle.std.specs.Option.{ok_or, option_map}
use Rattle.attach_target.specs.Targets.{cache_found, CacheSays, PartOfSome}
use Rattle.attach_target.specs.declared.fault.TargetFault.TheVariants.{InvalidTarget}
use Rattle.attach_target.proofs.Cached.{cache_says}
use Rattle.attach_target.proofs.target.find_in_cache.Goals as goal

pub returns : goal.returns
returns c =
    let checked = c.in_ok-parse.ensures.cases in
    let target = c.args.target.now in
    let given = sym c.in_ok-cache.ensures.ok_part in
    let found = c.resolve.result in
    let says = cache_says checked.0 checked.1 checked.2 target found c.resolve.ensures.cases in
    rw c.ok_or-2.ensures.value
    (record {
      answer = subst (λ o. CacheSays target (option_map (λ x. x.now) o) (cache_found (ok_or found InvalidTarget))) given says.0;
      part = subst (λ o. IfOk (ok_or found InvalidTarget) (λ p. PartOfSome (option_map (λ x. x.now) o) p.place p.bytes.now)) given says.1;
    })
