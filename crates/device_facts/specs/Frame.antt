-- What some calls on a device leave as it was. A door is a source and a sink: its reads leave what
-- its sink holds.

-- a relation between a device before some calls and after them: it holds over no call, and over
-- calls one after another
pub record IsFrame {D : Type 0} (same : D → D → Type 0) : Type 0 where
  pub none : (device : D) → same device device
  pub both : (a b c : D) → same a b → same b c → same a c

-- of a device that is nothing but what its calls change nothing else is left
abbrev pub NothingElse : {D : Type 0} → D → D → Type 0
NothingElse old new = Unit {0}

pub nothing_else : {D : Type 0} → IsFrame (NothingElse {D = D})
nothing_else = record { none = λ d. tt; both = λ a b c first second. tt }
