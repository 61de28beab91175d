use Rattle.std.proofs.Common.{◌≡◌, ◌+◌, List, ℕ, ap, subst, Ok}
use Rattle.lie_math.specs.VectorField.{VectorField}
use Rattle.lie_scan.specs.ReadFails.{ReadFails}
use Rattle.lie_fieldtext.specs.FieldReading.{read_terms}
use Rattle.lie_fieldtext.proofs.FieldTermCounts.{read_small, read_few}
use Rattle.lie_fieldtext.proofs.FieldTexts.{read_in, found_field, only_field, no_fault, fails_only, fails_told, fails_stops}
use Rattle.lie_fieldtext.proofs.field.read_field.Goals as goal

pub field_of-requires-clause-terms : goal.field_of-requires-clause-terms
field_of-requires-clause-terms c =
    read_in c.args.system.now.names c.args.bytes.now c.in-Ok.terms.list.items (c.args.system.now.space.p + c.args.system.now.space.q) c.args.system.now.named
    (subst (λ (names : List ℕ). read_terms names c.args.bytes.now ≡ Ok c.in-Ok.terms.list.items) c.bytes.ensures c.in-Ok.ensures)

pub field_of-requires-clause-small : goal.field_of-requires-clause-small
field_of-requires-clause-small c = read_small c.bytes.result.now c.args.bytes.now c.in-Ok.terms.list.items c.in-Ok.ensures

pub field_of-requires-clause-few : goal.field_of-requires-clause-few
field_of-requires-clause-few c = read_few c.bytes.result.now c.args.bytes.now c.in-Ok.terms.list.items c.in-Ok.ensures

pub returns-in_ok-field_of-in-Ok-clause-found : goal.returns-in_ok-field_of-in-Ok-clause-found
returns-in_ok-field_of-in-Ok-clause-found c =
    found_field c.args.system.now.space c.args.system.now.names c.args.bytes.now c.in-Ok.terms.list.items c.in_ok-field_of-in-Ok.field-0
    (subst (λ (names : List ℕ). read_terms names c.args.bytes.now ≡ Ok c.in-Ok.terms.list.items) c.bytes.ensures c.in-Ok.ensures) c.in_ok-field_of-in-Ok.ensures

pub returns-in_ok-field_of-in-Ok-clause-only : goal.returns-in_ok-field_of-in-Ok-clause-only
returns-in_ok-field_of-in-Ok-clause-only c = λ V text short.
    ap Ok (only_field c.args.system.now.space c.args.system.now.names c.args.bytes.now c.in-Ok.terms.list.items c.in_ok-field_of-in-Ok.field-0 V
    (subst (λ (names : List ℕ). read_terms names c.args.bytes.now ≡ Ok c.in-Ok.terms.list.items) c.bytes.ensures c.in-Ok.ensures) c.in_ok-field_of-in-Ok.ensures text short)

pub returns-in_ok-field_of-in-Ok-clause-stops : goal.returns-in_ok-field_of-in-Ok-clause-stops
returns-in_ok-field_of-in-Ok-clause-stops c = λ f fault.
    no_fault c.args.system.now.names c.args.bytes.now c.in-Ok.terms.list.items f
    (subst (λ (names : List ℕ). read_terms names c.args.bytes.now ≡ Ok c.in-Ok.terms.list.items) c.bytes.ensures c.in-Ok.ensures) fault

pub returns-in-Err-clause-only : goal.returns-in-Err-clause-only
returns-in-Err-clause-only c =
    fails_only (λ (V : VectorField). V) c.args.system.now.space c.args.system.now.names c.args.bytes.now c.in-Err.fail (subst (λ (names : List ℕ). ReadFails c.in-Err.fail (read_terms names c.args.bytes.now)) c.bytes.ensures c.in-Err.ensures)

pub returns-in-Err-clause-fault : goal.returns-in-Err-clause-fault
returns-in-Err-clause-fault c =
    fails_told (λ (V : VectorField). V) c.args.system.now.space c.args.system.now.names c.args.bytes.now c.in-Err.fail (subst (λ (names : List ℕ). ReadFails c.in-Err.fail (read_terms names c.args.bytes.now)) c.bytes.ensures c.in-Err.ensures)

pub returns-in-Err-clause-stops : goal.returns-in-Err-clause-stops
returns-in-Err-clause-stops c =
    fails_stops (λ (V : VectorField). V) c.args.system.now.space c.args.system.now.names c.args.bytes.now c.in-Err.fail (subst (λ (names : List ℕ). ReadFails c.in-Err.fail (read_terms names c.args.bytes.now)) c.bytes.ensures c.in-Err.ensures)
