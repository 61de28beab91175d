-- The entries of pairs, one more and all, and what the work of a table is past.
use Rattle.std.specs.Prelude.{◌≡◌, ℕ, List, [], ◌∷◌, ◌++◌, length, Vec}
use Rattle.std.specs.declared.alloc.Global.{Global}
use Rattle.std.proofs.Common.{sym, ap, subst, ◌∙◌}
use Rattle.std.proofs.lemmas.List.{map-append, length-map, append_assoc}
use Rattle.std.specs.List.{Contains}
use Rattle.lie_math.specs.VectorField.{VectorField}
use Rattle.lie_math.proofs.EveryElement.{every-append}
use Rattle.lie_geometry.specs.Coordinates.{Space}
use Rattle.lie_systems.specs.Works.{IsWorkWithin}
use Rattle.lie_ring.specs.declared.failures.PastKind.TheVariants.{Coefficient, Exponent, Terms, Order, Unknowns, Width}
use Rattle.lie_ring.specs.declared.failures.PolyFail.{PolyFail}
use Rattle.lie_ring.specs.declared.failures.PolyFail.TheVariants.{Past, NoMemory}
use Rattle.lie_ring.specs.declared.ratio.Ratio.{Ratio}
use Rattle.lie_brackets.specs.Bulks.{BracketMakes}
use Rattle.lie_brackets.specs.Causes.{IsWorkCause}
use Rattle.lie_brackets.specs.Generators.{field_of_generator, fields_of, pairs_before, AreEntriesWithin}
use Rattle.lie_brackets.specs.Tables.{pairs_of, IsEntry, AreEntries, lists_of, TableMakes, bracket}
use Rattle.lie_brackets.specs.declared.generators.Generator.{Generator}
use Rattle.lie_brackets.proofs.PairLists.{all_pairs}

entries_append : (S : Space) (Vs : List VectorField) (ps : List (VectorField × VectorField)) (es : List (List Ratio)) (p : VectorField × VectorField) (e : List Ratio)
    → AreEntries S Vs ps es → IsEntry S Vs p e → AreEntries S Vs (ps ++ p ∷ []) (es ++ e ∷ [])
entries_append S Vs [] [] p e h k = (k, tt)
entries_append S Vs [] (f ∷ es) p e h k = absurd h
entries_append S Vs (q ∷ ps) [] p e h k = absurd h
entries_append S Vs (q ∷ ps) (f ∷ es) p e h k = (h.0, entries_append S Vs ps es p e h.1 k)

-- one entry more
module _ (S : Space) (Vs : List VectorField) (before from more : List (VectorField × VectorField)) (pair : VectorField × VectorField) (put : more ≡ from ++ pair ∷ []) where
  pub entries_more : (old new : List (Vec Ratio Global)) (e : Vec Ratio Global) → new ≡ old ++ e ∷ [] → IsEntry S Vs pair e.items
      → IsWorkWithin (BracketMakes S pair.0 pair.1) → AreEntriesWithin S Vs (before ++ from) (lists_of old) → AreEntriesWithin S Vs (before ++ more) (lists_of new)
  entries_more old new e is k w h =
      subst (λ es. AreEntriesWithin S Vs (before ++ more) es) (sym (ap lists_of is ∙ map-append (λ (v : Vec Ratio Global). v.items) old (e ∷ [])))
      (subst (λ ps. AreEntriesWithin S Vs ps (lists_of old ++ e.items ∷ [])) (append_assoc before from (pair ∷ []) ∙ ap (λ ps. before ++ ps) (sym put))
      (record {
        entries = entries_append S Vs (before ++ from) (lists_of old) pair e.items h.entries k;
        within = every-append (λ (p : VectorField × VectorField). IsWorkWithin (BracketMakes S p.0 p.1)) (before ++ from) (pair ∷ []) h.within (w, tt);
      }))

-- all entries
pub entries_of_all : (S : Space) (gs : List Generator) (Vs : List VectorField) (n : ℕ) (es : List (List Ratio)) → fields_of gs ≡ Vs → n ≡ length gs
    → AreEntriesWithin S (fields_of gs) (pairs_before n (fields_of gs)) es → AreEntriesWithin S Vs (pairs_of Vs) es
entries_of_all S gs Vs n es is end h =
    subst (λ Ws. AreEntriesWithin S Ws (pairs_of Ws) es) is
    (subst (λ ps. AreEntriesWithin S (fields_of gs) ps es)
    (ap (λ m. pairs_before m (fields_of gs)) (end ∙ sym (length-map gs field_of_generator)) ∙ all_pairs (fields_of gs)) h)

-- what the bracket of a pair is past, the table is past
pub table_cause : (fail : PolyFail) (S : Space) (Vs : List VectorField) (pair : VectorField × VectorField) → Contains (pairs_of Vs) pair
    → IsWorkCause fail (BracketMakes S pair.0 pair.1) → IsWorkCause fail (TableMakes S Vs)
table_cause (Past Coefficient) S Vs pair c h = (h.0, bracket pair c h.0 h.1, h.2)
table_cause (Past Exponent) S Vs pair c h = (h.0, bracket pair c h.0 h.1, h.2)
table_cause (Past Terms) S Vs pair c h = (h.0, bracket pair c h.0 h.1, h.2)
table_cause (Past Order) S Vs pair c h = absurd h
table_cause (Past Unknowns) S Vs pair c h = absurd h
table_cause (Past Width) S Vs pair c h = absurd h
table_cause NoMemory S Vs pair c h = tt
