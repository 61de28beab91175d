use Rattle.std.specs.Prelude.{All, map, length, ◌<◌, ◌-◌}
use Rattle.std.proofs.Common.{sym, subst, ap, ap₂, ◌∙◌}
use Rattle.std.proofs.lemmas.List.Elements.{All-from_recursion}
use Rattle.lie_file.proofs.NameBytes.{AreAscii, names_ascii}
use Rattle.lie_file.proofs.ShortLines.{header_short, names_short}
use Rattle.lie_file.proofs.FileEquations.{parts_are_kept}
use Rattle.lie_file.proofs.file.system_of.Goals as goal

pub equations_of-requires-clause-short : goal.equations_of-requires-clause-short
equations_of-requires-clause-short c =
    names_short _ _ _ (c.in_ok-names.names.items, map (λ l. l.now) c.in_ok-names.rest.now) c.in_ok-names.ensures.value
    (names_short _ _ _ (c.in_ok-independent.independent.items, map (λ l. l.now) c.in_ok-independent.rest.now) c.in_ok-independent.ensures.value
    (header_short _ (map (λ l. l.now) c.in_ok-rest.rest.now) c.in_ok-rest.ensures.value c.requires.short))

pub unreachable-requires : goal.unreachable-requires
unreachable-requires c =
    let independent : AreAscii c.in_ok-independent.independent.items =
    names_ascii _ _ _ (c.in_ok-independent.independent.items, map (λ l. l.now) c.in_ok-independent.rest.now) c.in_ok-independent.ensures.value (subst AreAscii (sym c.as_slice-2.ensures) tt) in
    let names : AreAscii c.in_ok-names.names.items =
    names_ascii _ _ _ (c.in_ok-names.names.items, map (λ l. l.now) c.in_ok-names.rest.now) c.in_ok-names.ensures.value (subst AreAscii (sym c.as_slice-4.ensures.value) independent) in
    (rw c.in-None.is at c.in_ok-names-2.ensures) (subst (All (λ b. b < 128)) (sym c.as_slice-6.ensures.value) (All-from_recursion (λ b. b < 128) c.in_ok-names.names.items names))

pub invariant_of-result : goal.invariant_of-result
invariant_of-result c =
    let first = sym c.as_slice-4.ensures.len ∙ ap length c.as_slice-4.ensures.value in
    let all = sym c.as_slice-5.ensures.len ∙ ap length c.as_slice-5.ensures.value in
    let k = parts_are_kept (map (λ l. l.now) c.args.lines.now) _ _ (map (λ l. l.now) c.in_ok-names.rest.now) _ _ _ _ _ c.in-Some.names c.in_ok-independent.independent.items c.in_ok-names.names.items _ c.in_ok-equations.equations.items
    c.as_slice.ensures c.as_slice-2.ensures c.as_slice-3.ensures c.as_slice-4.ensures.value c.as_slice-5.ensures.value ((rw c.in-Some.is at c.in_ok-names-2.ensures).0 ∙ c.as_slice-6.ensures.value)
    c.in_ok-rest.ensures.value c.in_ok-independent.ensures.value c.in_ok-names.ensures.value c.in_ok-equations.ensures.value (c.len.ensures ∙ first) (ap₂ ◌-◌ (c.len-2.ensures ∙ all) (c.len-3.ensures ∙ first)) c.in_ok-equations.ensures.jets in
    record { small = k.small; named = k.named; letters = k.letters; some = k.some; kept = k.kept; sides = k.sides }
