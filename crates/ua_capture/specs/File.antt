-- What is held of a file.
use Rattle.std.specs.Prelude.{ℕ, List}
use Rattle.ua_capture.specs.declared.form.Form.{Form}
use Rattle.ua_capture.specs.declared.file.Interface.{Interface}

-- its form, the interfaces of its section, the bytes that are not used yet, the bytes of the packet that is lent, and the place of the first that
-- is not used
pub record Reading : Type 0 where
  pub form : Form
  pub interfaces : List Interface
  pub rest : List ℕ
  pub packet : List ℕ
  pub place : ℕ
