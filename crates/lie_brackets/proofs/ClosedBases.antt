-- The reduced basis of invariant fields is closed under the bracket.
use Rattle.std.specs.Prelude.{◌+◌, List, [], ◌∷◌, map}
use Rattle.std.specs.List.{AllByRecursion as Every, Contains}
use Rattle.lie_math.specs.VectorField.{VectorField}
use Rattle.lie_math.proofs.ContainedElements.{contains_first, contains_later}
use Rattle.lie_math.proofs.EveryElement.{every-append, every-map, every_contained, every_of_contained}
use Rattle.lie_geometry.specs.Commutator.{commutator}
use Rattle.lie_geometry.specs.Invariance.{IsFieldOn, IsInvariant}
use Rattle.lie_geometry.specs.InvarianceLaws.{CommutatorIsInvariant}
use Rattle.lie_spans.specs.Fields.{field_entry, IsCombination, IsFieldIn}
use Rattle.lie_spans.specs.Laws.{CombinationIsSpan}
use Rattle.lie_spans.specs.Spans.{IsSpanned}
use Rattle.lie_spans.proofs.Spans.{spanned_each}
use Rattle.lie_brackets.specs.Laws.{FieldInIsFieldOn, InvariantBasisIsClosed}
use Rattle.lie_brackets.specs.Tables.{pairs_of}

-- what any two elements have, each pair has
pub every_pair : {X : Type 0} (P : X × X → Type 0) (xs : List X) → ((x y : X) → Contains xs x → Contains xs y → P (x, y)) → Every P (pairs_of xs)
every_pair P [] f = tt
every_pair P (x ∷ xs) f =
    every-append P (map (λ y. (x, y)) xs) (pairs_of xs)
    (every-map P (λ y. (x, y)) xs (every_of_contained (λ y. P (x, y)) xs (λ y c. f x y (contains_first x xs) (contains_later x xs y c))))
    (every_pair P xs (λ y z c d. f y z (contains_later x xs y c) (contains_later x xs z d)))

pub basis_is_closed : FieldInIsFieldOn → CombinationIsSpan → CommutatorIsInvariant → InvariantBasisIsClosed
basis_is_closed same span law S space rs solved Vs h = every_pair (λ pair. IsCombination Vs (commutator S pair.0 pair.1)) Vs (λ V W c d.
    let k = law S space V W (on V c) (on W d) in
    (h.spans (commutator S V W) ((same S (commutator S V W)).1 k.0)).0 (k.1 rs solved (invariant V c) (invariant W d)))
  where
    field_in : (V : VectorField) → Contains Vs V → IsFieldIn (S.p + S.q) V
    field_in V c = every_contained (IsFieldIn (S.p + S.q)) Vs V h.fields c

    on : (V : VectorField) → Contains Vs V → IsFieldOn S V
    on V c = (same S V).0 (field_in V c)

    invariant : (V : VectorField) → Contains Vs V → IsInvariant S rs V
    invariant V c =
        (h.spans V (field_in V c)).1
        ((span Vs V (field_in V c).positive).1 (every_contained (λ W. IsSpanned field_entry Vs (field_entry W)) Vs V (spanned_each field_entry Vs) c))
