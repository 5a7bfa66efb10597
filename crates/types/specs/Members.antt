-- A type's members put in order, and what is told of them.
use Rattle.std.specs.Prelude.{ℕ, ◌≤◌, min, ◌≡◌, Bool, ◌&&◌, List, ◌++◌, length}
use Rattle.orm.specs.Diagram.{ObjectType, Diagram}
use Rattle.orm.specs.Population.{Population}
use Rattle.orm.specs.Constraints.{K10}
use Rattle.orm.specs.Form.{◌to◌, in_range}
use Rattle.faults.specs.Faults.{unless, lowered, faults_of}
use Rattle.faults.specs.Passes.{roles_faults}
use Rattle.sorting.specs.Rising.{Rising}
use Rattle.columns.specs.declared.column.Column.{Column}
use Rattle.order.specs.Parts.{Scratch}

-- Scratch with room for every type in the cells of up to 4,096 members
pub record Room (s list spare : List ℕ) : Type 0 where
  pub scratch : Scratch list spare
  pub even : length spare ≡ length list
  pub enough : min 4096 (length s) ≤ length list

-- A column, and scratch as long as it
pub record Sized (c : Column) (list spare : List ℕ) : Type 0 where
  pub scratch : Scratch list spare
  pub long : length list ≡ c.count
  pub even : length spare ≡ length list

-- Members that rise, and a mark for each
pub record Paired (list marks : List ℕ) : Type 0 where
  pub rising : Rising list
  pub even : length marks ≡ length list

-- The entries with K7, K8 and K11 of the roles of a type with the members `ws`, and with K10
unfoldable pub roles_told : Diagram → Population → ℕ → ObjectType → List ℕ → List ℕ → List ℕ
roles_told d o n t ws e = lowered (unless (K10 d o n t ws) 10 n) (lowered (faults_of (roles_faults n ws) 1 d.preds o.preds) e)

-- K1 and K2 of a type with so many members, which differ or not, are noted; b tells whether both are kept
pub record Noted (t : ObjectType) (n size : ℕ) (differ : Bool) (e e' : List ℕ) (b : Bool) : Type 0 where
  pub faults : e' ≡ lowered (unless differ 1 n ++ unless (in_range (t.min to t.max) size) 2 n) e
  pub kept : b ≡ (differ && in_range (t.min to t.max) size)
