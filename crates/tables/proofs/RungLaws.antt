-- A ladder asked rung by rung, each by one call: what is left of it where a rung passes, and what it says where a rung refuses.
use Prim.Native.Nat.{ℕ, suc}
use mathlib.Core.Path.{◌≡◌, refl, sym, ap, ◌∙◌}
use mathlib.Core.List.{List, [], ◌∷◌}
use mathlib.Core.Bool.{Bool, true, false, cond}
use mathlib.Core.Logic.{◌≢◌}
use native.Mathlib.Omega.{arith}
use Rattle.std.specs.Result.{IsErrAnd, is_err}
use Rattle.std.specs.declared.result.Result.{Result}
use Rattle.std.specs.declared.result.Result.TheVariants.{Ok, Err}
use Rattle.std.proofs.lemmas.Result.{err_from_is_err_and}
use Rattle.mesh.specs.Ladder.{Rung, rung, first_of}
use Rattle.mesh.proofs.Ladder.{stands, falls}
use Rattle.mesh.proofs.Tests.{by_bool, clash}
use Rattle.tables.specs.declared.refusal.Refusal.{Refusal}
use Rattle.tables.specs.Refusal.{number, number_met}
use Rattle.tables.proofs.RefusalLaws.{number_above}

-- one fault asked, refused by number k
pub passed_by : (fault : Bool) (k : ℕ) → ◌≡◌ {A = ℕ} 0 (cond fault (suc k) 0) → fault ≡ false
passed_by fault k e = by_bool fault (λ t. absurd (let z : 0 ≡ suc k = rw t at e in omega arith)) (λ t. t)

pub stopped_by : (fault : Bool) (k : ℕ) (s : Refusal) → number s ≡ cond fault k 0 → (fault ≡ true) × (number s ≡ k)
stopped_by fault k s e =
    by_bool fault (λ t. (t, rw t at e)) (λ t. absurd (let l = number_above s in let f : number s ≡ 0 = rw t at e in omega arith))

pub rung_met : (k : ℕ) (fault : Bool) (rest : List Rung) (s : Refusal) → number s ≡ cond fault k 0 → number s ≡ first_of (rung k fault ∷ rest)
rung_met k fault rest s e = let t = stopped_by fault k s e in t.1 ∙ sym (stands k fault rest t.0)

-- a call that asks one fault and refuses by r
module _ {asked fault : Bool} (r : Refusal) (same : asked ≡ fault) where
  pub passed : 0 ≡ cond asked (number r) 0 → fault ≡ false
  passed e = by_bool asked (λ t. absurd (let a = number_above r in let f : 0 ≡ number r = rw t at e in omega arith)) (λ t. sym same ∙ t)

  pub stopped : (s : Refusal) → number s ≡ cond asked (number r) 0 → (fault ≡ true) × (number s ≡ number r)
  stopped s e = let t = stopped_by asked (number r) s e in (sym same ∙ t.0, t.1)

  module _ {k : ℕ} (rest : List Rung) (top : k ≡ first_of (rung (number r) fault ∷ rest)) where
    pub goes_on : 0 ≡ cond asked (number r) 0 → k ≡ first_of rest
    goes_on e = top ∙ falls (number r) fault rest (passed e)

    pub ends : (s : Refusal) → number s ≡ cond asked (number r) 0 → k ≡ number s
    ends s e = let t = stopped s e in top ∙ stands (number r) fault rest t.0 ∙ sym t.1

-- the rung at the end
pub last : {asked fault : Bool} (r : Refusal) → asked ≡ fault → cond asked (number r) 0 ≡ first_of (rung (number r) fault ∷ [])
unfolding first_of
last r same = ap (λ b. cond b (number r) 0) same

-- what `?` hands on
pub handed : {A : Type 0} {r : Result A Refusal} {e : Refusal} → IsErrAnd r (λ x. x ≡ e) → r ≡ Err e
handed {r = r} h = let p = err_from_is_err_and r h in rw (p.1, p.2)

pub handed_number : {A : Type 0} (r : Result A Refusal) (s : Refusal) → IsErrAnd r (λ x. x ≡ s) → number_met r ≡ number s
handed_number r s h = ap number_met (handed h)

-- whether a call was refused
pub met_some : {A : Type 0} (r : Result A Refusal) → is_err r ≡ true → number_met r ≢ 0
met_some (Ok a) e = clash (is_err {E = Refusal} (Ok a)) e refl
met_some (Err s) e = λ z. let a = number_above s in omega arith

pub met_none : {A : Type 0} (r : Result A Refusal) → is_err r ≡ false → number_met r ≡ 0
met_none (Ok a) e = refl
met_none {A} (Err s) e = clash (is_err {T = A} (Err s)) refl e
