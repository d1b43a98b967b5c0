-- The store of a session, and how it stands.
use Rattle.std.specs.Prelude.{◌≡◌, ◌≤◌, [], vec_capacity}
use Rattle.batch_reports.specs.declared.answers.TheConstants.{TEXT_ROOM}
use Rattle.book_store.specs.declared.store.Store.{Store}
use Rattle.store_runs.specs.Books.{BookState, stored_book}
use Rattle.script_session.specs.declared.session.Session.{Session}
use Rattle.script_session.specs.Outside.{LogView}

-- the store of a session, and its book
abbrev pub store_in : {D : Type 0} → Session D → Store D
store_in session = session.caller.store

abbrev pub book_in : {D : Type 0} → Session D → BookState
book_in session = stored_book (store_in session)

-- what it has told of lanes
abbrev pub log_in : {D : Type 0} → Session D → LogView
log_in session = session.log.told

-- a session that goes on: there is room for the text of an answer, no fault of the disk was answered,
-- and no line of a lane is still to be said
pub record IsReady {D : Type 0} (session : Session D) : Type 0 where
  pub room : TEXT_ROOM ≤ vec_capacity session.text
  pub calm : session.caller.faults ≡ 0
  pub said : session.log.told.unsaid ≡ []
