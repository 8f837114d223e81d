pub mod BacklogLaws
