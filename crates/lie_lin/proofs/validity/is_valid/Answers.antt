use Rattle.std.proofs.Common.{◌+◌, sym, subst, arith, ◌≡◌, length}
use Rattle.std.specs.Prelude.{IfOk, MatchBool}
use Rattle.lie_geometry.specs.Coordinates.{Space}
use Rattle.lie_systems.specs.ValidSystems.{IsValid}
use Rattle.lie_lin.specs.Systems.{system_of}
use Rattle.lie_lin.proofs.ValidParts.{valid_of, below_of, rising_of, valid_by}
use Rattle.lie_lin.proofs.validity.is_valid.Goals as goal

pub returns-then-not-are_unknowns_below : goal.returns-then-not-are_unknowns_below
returns-then-not-are_unknowns_below c = λ v.
    c.if-not-are_unknowns_below.ensures (below_of (c.space.inside.p + c.space.inside.q) c.args.unknowns.now c.args.equations.now c.args.general.now c.args.next
    (subst (λ (s : Space). IsValid (s.p + s.q) (system_of c.args.unknowns.now c.args.equations.now c.args.general.now c.args.next)) (sym c.space.view_is) v))

pub returns-then-not-are_rising : goal.returns-then-not-are_rising
returns-then-not-are_rising c = λ v. c.if-not-are_rising.ensures (rising_of (c.args.space.p + c.args.space.q) c.args.unknowns.now c.args.equations.now c.args.general.now c.args.next v)

pub returns : goal.returns
returns c =
    let components : length c.args.general.now ≡ c.space.inside.p + c.space.inside.q = omega arith in
    subst (λ (s : Space). IfOk c.are_in_order.result (λ yes. MatchBool yes
    (IsValid (s.p + s.q) (system_of c.args.unknowns.now c.args.equations.now c.args.general.now c.args.next))
    (¬ (IsValid (s.p + s.q) (system_of c.args.unknowns.now c.args.equations.now c.args.general.now c.args.next))))) c.space.view_is
    (valid_by c.are_in_order.result (c.space.inside.p + c.space.inside.q) c.args.unknowns.now c.args.equations.now c.args.general.now c.args.next
    (λ ordered. valid_of (c.space.inside.p + c.space.inside.q) c.args.unknowns.now c.args.equations.now c.args.general.now c.args.next components
    c.if-not-are_unknowns_below.ensures c.if-not-are_rising.ensures
    (rw c.if-not-equations_fit.false at c.in_ok-equations_fit.ensures) (rw c.if-not-normalised.false at c.in_ok-normalised.ensures) ordered (rw c.if-not-general_fits.false at c.in_ok-general_fits.ensures))
    c.are_in_order.ensures)
